-- `reorder_orders::translate_in` meets its contract: the listed numbers are read from what `place_numbers` stored. Assumes nothing.
use mathlib.Core.Path.{ap, ◌∙◌}
use mathlib.Core.List.{List}
use Prim.Native.Nat.{ℕ}
use Rattle.columns.specs.Lists.{over}
use Rattle.reorder_orders.proofs.Gathering.{renamed_by}
use Rattle.reorder_orders.proofs.translate_in.Goals as goal

pub returns : goal.returns
returns c =
    let r = c.requires in
    c.gather.ensures 0 ∙ ap (λ (l : List ℕ). over l c.args.column.now) (renamed_by _ r.order.0 _ _ c.place_numbers.ensures r.by_index)
