-- `reorder_calls::lists::gather_lists` meets its contract: each turn stores one list more. Assumes nothing.
use mathlib.Core.Path.{refl}
use Prim.Native.Nat.{◌<◌}
use native.Mathlib.Omega.{arith}
use lib.ListN.{get_or, length}
use Rattle.columns.specs.Lists.{joined}
use Rattle.reorder_orders.proofs.Permutation.{order_below}
use Rattle.reorder_calls.proofs.Moving.{list-fits, list_room, lists_more, lists-count, lists-end}
use Rattle.reorder_calls.proofs.lists.gather_lists.Goals as goal

pub loop-vertex-init : goal.loop-vertex-init
unfolding joined
loop-vertex-init c = (refl, refl)

pub bounds-lengths-u : goal.bounds-lengths-u
bounds-lengths-u c = omega (arith, order_below c.args.order.now c.requires.order.0 c.loop-vertex.vertex-index (omega arith))

pub bounds-starts-u : goal.bounds-starts-u
bounds-starts-u c = omega (arith, order_below c.args.order.now c.requires.order.0 c.loop-vertex.vertex-index (omega arith))

pub copy_run-requires : goal.copy_run-requires
copy_run-requires c =
    let a = c.args in
    let r = c.requires in
    let o = a.order.now in
    let k = c.loop-vertex.vertex-index in
    let b = order_below o r.order.0 k (omega arith) in (
      omega (arith, r.by_index (get_or o k 0) b, list-fits a.lengths.now a.from.now (length o) (get_or o k 0) b r.lengths_in_bounds.0),
      omega (arith, list_room o a.lengths.now a.from.now r.order.0 r.lengths_in_bounds.0 k (omega arith)),
    )

pub overflow_add-at : goal.overflow_add-at
overflow_add-at c =
    let a = c.args in
    let r = c.requires in
    record { fits = omega (arith, list_room a.order.now a.lengths.now a.from.now r.order.0 r.lengths_in_bounds.0 c.loop-vertex.vertex-index (omega arith)) }

pub loop-vertex-preserved : goal.loop-vertex-preserved
loop-vertex-preserved c =
    let a = c.args in
    let r = c.requires in
    let l = c.loop-vertex in
    let o = a.order.now in
    let k = l.vertex-index in
    let h : k < length o = omega arith in
    let fits = r.lengths_in_bounds.0 in
    let starts = r.by_index (get_or o k 0) (order_below o r.order.0 k h) in (
      lists-count o a.lengths.now a.from.now r.order.0 fits k h l.invariant.0,
      lists_more o a.lengths.now a.from.now r.order.0 fits k _ h l.invariant.0 l.invariant.1 starts c.copy_run.ensures,
    )

pub returns : goal.returns
returns c =
    let r = c.requires in
    lists-end _ _ _ r.order.0 r.lengths_in_bounds.0 c.loop-vertex.vertex-index _ (omega arith) r.lengths_in_bounds.1 c.loop-vertex.invariant.1
