-- Bytes that are set, and lists of their numbers.
use Rattle.std.specs.Prelude.{ℕ, ◌<◌, ◌≤◌, ◌≡◌, Bool, false, not, ◌||◌, cond, List, [], ◌∷◌, get_or, length, eqb}
use Rattle.std.proofs.lemmas.List.Edits.{sets}
use Rattle.columns.specs.Lists.{each}
use Rattle.columns_neighbors.specs.Lists.{chosen}

-- Records, on vertices and on edges: a byte that is not 0: a defect, an erasure, and of boundary bytes a virtual vertex.
abbrev pub is_set : ℕ → Bool
is_set byte = not (eqb byte 0)

-- Sampling, syndromes, reordering, paragraph 2, sentence 4: a list of defects, erasures or virtual vertices: the numbers below n whose byte is set, ascending.
unfoldable pub listed : ℕ → List ℕ → List ℕ
listed n column = chosen n (λ k. is_set (get_or column k 0))

-- Sampling, syndromes, reordering, paragraph 2, sentence 4: the first n places of a list ascend.
abbrev pub Ascending : (n : ℕ) → List ℕ → Type 0
Ascending n list = (i j : ℕ) → i < j → j < n → get_or list i 0 < get_or list j 0

-- Sampling, syndromes, reordering, paragraph 2, sentence 4: a list of n numbers handed back in a column: it ascends, and places past the count are unchanged.
pub record AscendingList (n : ℕ) (list₀ list : List ℕ) : Type 0 where
  pub ascends : Ascending n list
  pub unchanged : (i : ℕ) → n ≤ i → get_or list i 0 ≡ get_or list₀ i 0
  pub fits : n ≤ length list
  pub same_length : length list ≡ length list₀

-- Sampling, syndromes, reordering, paragraph 2, sentence 4: such a list goes on; where its first places hold the numbers
-- below `from` whose byte is set, they hold those below `to` afterwards.
abbrev pub Continued : (column : List ℕ) (from to : ℕ) (list₀ list : List ℕ) → Type 0
Continued column from to list₀ list = (l : List ℕ) → list₀ ≡ sets l 0 (listed from column) → list ≡ sets l 0 (listed to column)

-- Taken over, the trait `ExampleCode`: whether a list names the number k.
unfoldable pub names : List ℕ → ℕ → Bool
names [] k = false
names (x ∷ list) k = eqb x k || names list k

-- Records, on vertices and on edges: the n defect or erasure bytes that a list sets, 1 at each number that it names, once or more often, else 0.
unfoldable pub marks : ℕ → List ℕ → List ℕ
marks n list = each n (λ k. cond (names list k) 1 0)
