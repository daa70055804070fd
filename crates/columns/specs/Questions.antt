-- The tests that document 01's "Questions at the door" are made of.
use Rattle.std.specs.Prelude.{ℕ, zero, suc, ◌≡◌, Bool, true, ◌&&◌, cond, List, [], ◌∷◌, take, leb, ltb}
use Rattle.columns.specs.Limits.{vertex_limit, edge_limit, half_weight_limit, weight_limit, boundary_limit, mark_limit}

-- Questions at the door, sentences 1 and 2: one question; yes goes on to the next, no yields its number.
abbrev pub ask : Bool → ℕ → ℕ → ℕ
ask met number next = cond met next number

-- Questions at the door, sentence 1, over a whole list: every element passes a test.
unfoldable pub all : {A : Type 0} → (A → Bool) → List A → Bool
all test [] = true
all test (x ∷ xs) = test x && all test xs

-- Questions at the door, sentence 1: what a closure answers is whether the element passes the test.
abbrev pub Decides : {A : Type 0} → (post : A → Bool → Type 0) → (A → Bool) → Type 0
Decides {A} post test = (x : A) (b : Bool) → post x b → b ≡ test x

-- Questions at the door, sentence 1, over a count: every number below n passes a test.
unfoldable pub every : ℕ → (ℕ → Bool) → Bool
every zero test = true
every (suc n) test = every n test && test n

-- Questions at the door, 7 and 13: every number of a list is below a limit.
abbrev pub all_below : ℕ → List ℕ → Bool
all_below limit xs = all (λ x. ltb x limit) xs

-- Questions at the door, 7 and 15: every number of a list is at most a limit.
abbrev pub all_within : ℕ → List ℕ → Bool
all_within limit xs = all (λ x. leb x limit) xs

-- Questions at the door, 7: 1 to 4,096 vertices.
abbrev pub vertex_count_sound : ℕ → Bool
vertex_count_sound v = leb 1 v && leb v vertex_limit

-- Questions at the door, 7: 0 to 32,768 edges.
abbrev pub edge_count_sound : ℕ → Bool
edge_count_sound e = leb e edge_limit

-- Questions at the door, 7, within the Records: the boundary bytes in the first n places of a column.
abbrev pub boundaries_sound : ℕ → List ℕ → Bool
boundaries_sound n column = all_within boundary_limit (take n column)

-- Questions at the door, 7, within the Records: the defect or erasure bytes in the first n places of a column.
abbrev pub marks_sound : ℕ → List ℕ → Bool
marks_sound n column = all_within mark_limit (take n column)

-- Questions at the door, 7, within the Records: the half weights in the first n places of a column.
abbrev pub half_weights_sound : ℕ → List ℕ → Bool
half_weights_sound n column = all_within half_weight_limit (take n column)

-- Questions at the door, 7, within the Records: the weights in the first n places of a column of an engine graph or of its log.
abbrev pub weights_sound : ℕ → List ℕ → Bool
weights_sound n column = all_within weight_limit (take n column)
