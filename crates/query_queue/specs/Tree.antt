-- A tree of least keys in two columns. Places 1 to n - 1 are inner and stand in `node`; the leaf of number v is place n + v and stands in `leaf`.
-- An inner place k holds the lesser of what its children, places 2 k and 2 k + 1, hold. So place 1 holds the least key of all leaves.
use Rattle.std.specs.Prelude.{◌≡◌, cond, List, ℕ, ◌+◌, ◌*◌, ◌-◌, ◌<◌, ◌≤◌, min, ltb, length, get_or}

-- Engine, Settling, sentence 1: the key that no number has.
abbrev pub no_key : ℕ
no_key = 18446744073709551615

-- Engine, Settling, sentence 1: what stands at place j.
unfoldable pub place_of : List ℕ → List ℕ → ℕ → ℕ → ℕ
place_of node leaf n j = cond (ltb j n) (get_or node j 0) (get_or leaf (j - n) 0)

-- Engine, Settling, sentence 1: an inner place holds the lesser of its children.
abbrev pub Inner : List ℕ → List ℕ → ℕ → ℕ → Type 0
Inner node leaf n k = place_of node leaf n k ≡ min (place_of node leaf n (2 * k)) (place_of node leaf n (2 * k + 1))

-- Engine, Settling, sentence 1: every inner place holds the lesser of its children.
abbrev pub Tree : List ℕ → List ℕ → ℕ → Type 0
Tree node leaf n = (k : ℕ) → 0 < k → k < n → Inner node leaf n k

-- Engine, Settling, sentence 1: every inner place but i holds the lesser of its children.
abbrev pub TreeBut : List ℕ → List ℕ → ℕ → ℕ → Type 0
TreeBut node leaf n i = (k : ℕ) → 0 < k → k < n → (k ≡ i → ⊥) → Inner node leaf n k

-- Questions at the door, 6: the columns have room for n numbers.
abbrev pub TreeRoom : List ℕ → List ℕ → ℕ → Type 0
TreeRoom node leaf n = (n ≤ length node) × (n ≤ length leaf)

-- Engine, Settling, sentence 1: the number x is the least of the first n entries, and one of them.
pub record Least (leaf : List ℕ) (n x : ℕ) : Type 0 where
  pub below : (v : ℕ) → v < n → x ≤ get_or leaf v 0
  pub number : ℕ
  pub inside : number < n
  pub there : get_or leaf number 0 ≡ x

-- Engine, Settling, sentence 1: each of the first n entries is x.
abbrev pub Same : List ℕ → ℕ → ℕ → Type 0
Same l n x = (k : ℕ) → k < n → get_or l k 0 ≡ x
