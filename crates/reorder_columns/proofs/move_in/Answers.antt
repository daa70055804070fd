-- `reorder_columns::move_in` meets its contract: the column is gathered from a copy, which holds the same at each place that the order names. Assumes nothing.
use mathlib.Core.Path.{ap, ◌∙◌}
use mathlib.Core.List.{List}
use Prim.Native.Nat.{ℕ}
use native.Mathlib.Omega.{arith}
use Rattle.columns.specs.Lists.{over}
use Rattle.reorder_orders.proofs.Permutation.{order_below}
use Rattle.reorder_columns.proofs.Copies.{length-copied, moved_copy}
use Rattle.reorder_columns.proofs.move_in.Goals as goal

pub gather-requires : goal.gather-requires
gather-requires g c =
    let r = c.requires in
    let l = length-copied _ _ _ c.copy.ensures r.2 r.1 in
    ((λ i h. omega (arith, l, r.2, order_below _ r.0 i h)), r.1)

pub returns : goal.returns
returns g c = λ d.
    let r = c.requires in
    c.gather.ensures d ∙ ap (λ (l : List _). over l c.args.column.now) (moved_copy _ r.0 d _ _ c.copy.ensures r.2 r.1)
