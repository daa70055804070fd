-- `reorder_orders::fresh_in` meets its contract: the first numbers of the order are marked and differ. Assumes nothing.
use mathlib.Core.Path.{◌≡◌, refl, sym}
use Prim.Native.Nat.{◌<◌}
use native.Mathlib.Omega.{arith}
use lib.ListN.{get_or, length}
use Rattle.columns.specs.Questions.{every}
use Rattle.columns.proofs.Tests.{every_more}
use Rattle.reorder_orders.specs.Order.{none_twice}
use Rattle.reorder_orders.proofs.Gathering.{unseen, seen_none, seen_twice, seen-once, seen_more}
use Rattle.reorder_orders.proofs.fresh_in.Goals as goal

pub loop-vertex-init : goal.loop-vertex-init
unfolding every
loop-vertex-init c = (seen_none _ _ c.requires.1, refl)

pub returns-then-seen-at-eq1 : goal.returns-then-seen-at-eq1
returns-then-seen-at-eq1 c =
    let l = c.loop-vertex in
    seen_twice _ l.vertex-index l.seen (omega arith) l.invariant.0 (omega (arith, c.requires.0 l.vertex-index (omega arith))) c.if-seen-at-eq1.true

pub loop-vertex-preserved : goal.loop-vertex-preserved
loop-vertex-preserved c =
    let l = c.loop-vertex in
    let i = l.vertex-index in
    let o = c.args.order.now in
    let b : get_or o i 0 < length l.seen = omega (arith, c.requires.0 i (omega arith)) in
    (seen_more o i l.seen l.invariant.0 b, every_more (λ k. unseen o k (get_or o k 0)) i l.invariant.1 (seen-once o i l.seen l.invariant.0 b c.if-seen-at-eq1.false))

pub returns : goal.returns
unfolding none_twice
returns c = let e : c.loop-vertex.vertex-index ≡ length c.args.order.now = omega arith in rw (sym e) (sym c.loop-vertex.invariant.1)
