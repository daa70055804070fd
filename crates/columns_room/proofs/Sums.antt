-- Where a loop over list lengths ends. Assumes nothing.
use mathlib.Core.Path.{◌≡◌, sym, ap, ◌∙◌}
use mathlib.Core.List.{List}
use Prim.Native.Nat.{ℕ, zero, suc, ◌+◌, ◌-◌, ◌≤◌, min}
use native.Mathlib.Nat.{add-zero, add-suc, le_antisymm}
use native.Mathlib.Decide.{dec_le}
use native.Mathlib.Omega.{arith}
use lib.ListN.{length, get_or-eq_default}
use Rattle.columns_neighbors.specs.Lists.{sum_to}

sum_past : (k u : ℕ) (xs : List ℕ) → length xs ≤ u → sum_to (u + k) xs ≡ sum_to u xs
unfolding sum_to
sum_past zero u xs h = ap (λ (n : ℕ). sum_to n xs) (add-zero u)
sum_past (suc k) u xs h =
    ap (λ (n : ℕ). sum_to n xs) (add-suc u k)
    ∙ omega (arith, sum_past k u xs h, get_or-eq_default {A = ℕ} xs 0 {n = u + k} (omega arith))

-- where the loop over the lengths stops
pub sum_end : (n i : ℕ) (xs : List ℕ) → i ≤ n → min n (length xs) ≤ i → sum_to i xs ≡ sum_to n xs
sum_end n i xs k h = elim (dec_le n i) [
  | yes l ↦ ap (λ (j : ℕ). sum_to j xs) (le_antisymm k l)
  | no l ↦
      let e : i + (n - i) ≡ n = omega arith in
      sym (sum_past (n - i) i xs (omega arith)) ∙ ap (λ (j : ℕ). sum_to j xs) e
]
