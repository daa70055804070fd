-- `reorder_orders::rename_in` meets its contract: each end reads its new number from what `place_numbers` stored. Assumes nothing.
use mathlib.Core.Path.{ap, ◌∙◌}
use mathlib.Core.List.{List}
use Prim.Native.Nat.{ℕ}
use lib.ListN.{length}
use Rattle.columns.specs.Lists.{over}
use Rattle.reorder_orders.proofs.Gathering.{renamed_by, first_listed}
use Rattle.reorder_orders.proofs.rename_in.Goals as goal

pub returns : goal.returns
returns c =
    let a = c.args in
    let r = c.requires in
    let n = length a.order.now in
    let p = c.place_numbers.ensures in
    record {
      ends_a_after = c.rename_by.ensures ∙ ap (λ (l : List ℕ). over l a.ends_a.now) (renamed_by _ r.order.0 _ _ p (first_listed _ a.n n r.by_index.0));
      ends_b_after = c.rename_by-2.ensures ∙ ap (λ (l : List ℕ). over l a.ends_b.now) (renamed_by _ r.order.0 _ _ p (first_listed _ a.n n r.by_index.1));
    }
