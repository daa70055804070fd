-- Neighbour lists, as document 01's "Records" and "Six builders" have them.
use Rattle.std.specs.Prelude.{ℕ, zero, suc, ◌+◌, ◌<◌, ◌≡◌, Bool, List, ◌++◌, get_or, length, take, drop, eqb}
use Rattle.columns.specs.Lists.{each, joined, when, over}

-- Six builders, on new edges, sentence 2: edge number k where x is vertex v, else nothing.
unfoldable pub hits : (v x k : ℕ) → List ℕ
hits v x k = when (eqb x v) k

-- Six builders, on new edges, sentence 2: the neighbour list of vertex v, the numbers of
-- the edges before number e that end at v, ascending; a and b are the columns of ends.
unfoldable pub neighbors : (a b : List ℕ) (e v : ℕ) → List ℕ
neighbors a b e v = joined e (λ k. hits v (get_or a k 0) k ++ hits v (get_or b k 0) k)

-- Records, on neighbour lists: the lists of vertices 0 to n - 1 one after another, in vertex order.
unfoldable pub lists : (a b : List ℕ) (e n : ℕ) → List ℕ
lists a b e n = joined n (λ v. neighbors a b e v)

-- Records, on neighbour lists: the length of each list.
unfoldable pub degrees : (a b : List ℕ) (e n : ℕ) → List ℕ
degrees a b e n = each n (λ v. length (neighbors a b e v))

-- Sampling, syndromes, reordering, paragraph 2, sentence 4: the numbers below n for which a test holds, ascending.
unfoldable pub chosen : ℕ → (ℕ → Bool) → List ℕ
chosen n test = joined n (λ k. when (test k) k)

-- Records, on neighbour lists: the columns after the lists are filled in, unchanged past them; the last column has the place where each vertex's list ends.
pub record ListsFilled (a b : List ℕ) (e n : ℕ) (lengths₀ numbers₀ lengths numbers ends : List ℕ) : Type 0 where
  pub lengths_are : lengths ≡ over (degrees a b e n) lengths₀
  pub numbers_are : numbers ≡ over (lists a b e n) numbers₀
  pub ends_are : (u : ℕ) → u < n → get_or ends u 0 ≡ length (lists a b e (u + 1))

-- Questions at the door, 6, the list lengths' sum: the sum of the first n places.
unfoldable pub sum_to : ℕ → List ℕ → ℕ
sum_to zero xs = 0
sum_to (suc n) xs = sum_to n xs + get_or xs n 0

-- Records, on neighbour lists: the list of vertex u, which stands after the lists of the vertices before it.
abbrev pub neighbor_list_at : (lengths numbers : List ℕ) (u : ℕ) → List ℕ
neighbor_list_at lengths numbers u = take (get_or lengths u 0) (drop (sum_to u lengths) numbers)
