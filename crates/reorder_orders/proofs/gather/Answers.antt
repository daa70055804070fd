-- `reorder_orders::gather` meets its contract: after i turns the first i listed places are stored. Assumes nothing.
use mathlib.Core.Path.{refl, ◌∙◌}
use native.Mathlib.Omega.{arith}
use lib.ListN.{get_or}
use Rattle.columns.proofs.Columns.{get_d_any}
use Rattle.reorder_orders.proofs.Gathering.{gather-more, gather-end}
use Rattle.reorder_orders.proofs.gather.Goals as goal

pub loop-i-init : goal.loop-i-init
loop-i-init g c = λ d. refl

pub loop-i-preserved : goal.loop-i-preserved
loop-i-preserved g c = λ d.
    let from = c.args.from.now in
    let place = get_or c.args.list.now c.loop-i.i 0 in
    gather-more (λ u. get_or from u d) _ _ c.loop-i.i (omega arith) (c.loop-i.invariant d) (c.index-from-place.is ∙ get_d_any from place c.index-from-place.result d (c.requires.0 c.loop-i.i c.loop-i-test.true))

pub returns : goal.returns
returns g c = λ d. gather-end (λ u. get_or c.args.from.now u d) _ _ c.loop-i.i (omega arith) c.requires.1 (c.loop-i.invariant d)
