-- The half weight of an edge of weight w, where M is the largest half weight.
use Rattle.std.specs.Prelude.{◌≡◌, ℕ, zero, suc, ◌<◌, ◌≤◌, Bool, true, false, ◌⊎◌, pos, Float}
use Rattle.std.specs.Float.{binary64}
use Rattle.std.specs.Float.Ieee.{sub, mul, div, le, of_int}
use Rattle.columns.specs.Places.{half}

-- Weights, on half weights, sentence 1: v = (M·w) / (largest w).
unfoldable pub scaled : ℕ → Float → Float → Float
scaled max w largest = div binary64 (mul binary64 (of_int binary64 (pos max)) w) largest

-- Weights, on half weights, sentences 1 and 2: v ≥ n - 0.5; a NaN reaches no n.
unfoldable pub reaches : Float → ℕ → Bool
reaches v n = le (sub binary64 (of_int binary64 (pos n)) half) v

-- Weights, on half weights, sentence 1: from n down, the first number that v reaches, or 0; `met` says whether v reaches n.
unfoldable pub seek : Float → ℕ → (met : Bool) → ℕ
seek v zero met = 0
seek v (suc n) true = suc n
seek v (suc n) false = seek v n (reaches v n)

-- Weights, on half weights, sentence 1: the greatest n of 0 to M with n = 0 or v ≥ n - 0.5.
unfoldable pub greatest : Float → ℕ → ℕ
greatest v max = seek v max (reaches v max)

-- Weights, on half weights, sentence 1: r is the greatest n of 0 to M with n = 0 or v ≥ n - 0.5: it is such a number, and no greater one is.
pub record IsGreatest (v : Float) (max r : ℕ) : Type 0 where
  pub within : r ≤ max
  pub met : (r ≡ 0) ⊎ (reaches v r ≡ true)
  pub last : (n : ℕ) → r < n → n ≤ max → reaches v n ≡ false

-- Weights, on half weights, sentence 1: 0 then becomes 1.
abbrev pub at_least_one : ℕ → ℕ
at_least_one zero = 1
at_least_one (suc n) = suc n

-- Weights, on half weights, sentence 1: the half weight of an edge of weight w.
unfoldable pub half_weight : ℕ → Float → Float → ℕ
half_weight max w largest = at_least_one (greatest (scaled max w largest) max)

-- Weights, on half weights, sentence 1: the greatest M for which the search is proved: whole numbers up to it, and the next one, are f64 exactly.
abbrev pub search_limit : ℕ
search_limit = 500000000000
