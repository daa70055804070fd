-- Lists by counting, and what stands in a lent column afterwards.
use Rattle.std.specs.Prelude.{ℕ, zero, suc, Bool, cond, List, [], ◌∷◌, ◌++◌, length, drop, eqb}

-- Records, on columns: a list by counting, f 0, f 1, up to f (n - 1).
unfoldable pub each : {A : Type 0} → ℕ → (ℕ → A) → List A
each zero f = []
each (suc n) f = each n f ++ (f n ∷ [])

-- Records, on columns: lists by counting, f 0, f 1, up to f (n - 1), one after another.
unfoldable pub joined : {A : Type 0} → ℕ → (ℕ → List A) → List A
joined zero f = []
joined (suc n) f = joined n f ++ f n

-- Six builders, Kinds, sentence 2: rounds + 1 layers, with a gap's part after each layer but the last.
unfoldable pub layered : {A : Type 0} → ℕ → (layer gap : ℕ → List A) → List A
layered rounds layer gap = joined rounds (λ t. layer t ++ gap t) ++ layer rounds

-- Six builders, Edge order: a part of a list, the element alone where the test holds, else nothing.
abbrev pub when : {A : Type 0} → Bool → A → List A
when b x = cond b (x ∷ []) []

-- Engine, Path, sentence 3; Sampling, syndromes, reordering, paragraph 2, sentence 4: a column whose first places hold vs; the places past them are unchanged.
abbrev pub over : {A : Type 0} → List A → List A → List A
over vs column = vs ++ drop (length vs) column

-- Questions at the door, sentence 2: a column after a call that answers the number q: written where q is 0, unchanged where the call is refused.
abbrev pub after : {A : Type 0} → ℕ → List A → List A → List A
after q vs column = cond (eqb q 0) (over vs column) column
