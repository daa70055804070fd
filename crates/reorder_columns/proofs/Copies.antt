-- Laws of a column that is copied, and read through an order. Assumes nothing.
use mathlib.Core.Path.{◌≡◌, ap, ◌∙◌}
use mathlib.Core.List.{List}
use Prim.Native.Nat.{ℕ, ◌≤◌, ◌<◌}
use native.Mathlib.Omega.{arith}
use lib.ListN.{length, get_or, take, length-take}
use lib.Seq.{sets, length-sets, get_or-take}
use Rattle.columns.specs.Lists.{over}
use Rattle.columns.proofs.Columns.{sets_over, over-in}
use Rattle.reorder_orders.specs.Order.{moved}
use Rattle.reorder_orders.specs.Steps.{IsOrder}
use Rattle.reorder_orders.proofs.Permutation.{order_below}
use Rattle.reorder_orders.proofs.Gathering.{map-listed}

module _ {A : Type 0} (n : ℕ) (c₀ column : List A) {copy : List A} (e : copy ≡ sets c₀ 0 (take n column)) (room : n ≤ length c₀) (long : n ≤ length column) where
  pub length-copied : length copy ≡ length c₀
  length-copied = ap length e ∙ length-sets c₀ 0 (take n column)

  copied-over : copy ≡ over (take n column) c₀
  copied-over = e ∙ sets_over c₀ (take n column) (omega (arith, length-take n column))

  pub copied_at : (d : A) (u : ℕ) → u < n → get_or copy u d ≡ get_or column u d
  copied_at d u h =
      ap (λ (t : List A). get_or t u d) copied-over ∙ over-in (take n column) c₀ d u (omega (arith, length-take n column)) ∙ get_or-take n column u d h

pub moved_copy : {A : Type 0} (order : List ℕ) (o : IsOrder order) (d : A) (c₀ column : List A) {copy : List A} → copy ≡ sets c₀ 0 (take (length order) column)
    → length order ≤ length c₀ → length order ≤ length column → moved order d copy ≡ moved order d column
moved_copy order o d c₀ column {copy} e room long =
    map-listed (λ u. get_or copy u d) (λ u. get_or column u d) order (λ i h. copied_at (length order) c₀ column e room long d (get_or order i 0) (order_below order o i h))
