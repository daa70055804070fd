-- `reorder_calls::lists::list_starts` meets its contract: after i turns the first i starts are stored. Assumes nothing.
use mathlib.Core.Path.{refl}
use Prim.Native.Nat.{◌+◌, ◌<◌}
use native.Mathlib.Omega.{arith}
use lib.ListN.{length-take}
use lib.Seq.{get_or-take}
use Rattle.columns_neighbors.specs.Lists.{sum_to}
use Rattle.columns_neighbors.proofs.Placing.{sum_more, sum_ascends}
use Rattle.reorder_calls.proofs.Moving.{starts_more}
use Rattle.reorder_calls.proofs.lists.list_starts.Goals as goal

pub loop-i-init : goal.loop-i-init
unfolding sum_to
loop-i-init c = (refl, λ u h. absurd (omega arith))

pub overflow_add-sum : goal.overflow_add-sum
overflow_add-sum c =
    let a = c.args in
    let i = c.loop-i.i in
    let h : i < a.n = omega (arith, length-take a.n a.lengths.now) in
    record { fits = omega (arith, c.requires.2, get_or-take a.n a.lengths.now i 0 h, sum_more i a.lengths.now, sum_ascends (i + 1) a.n a.lengths.now (omega arith)) }

pub loop-i-preserved : goal.loop-i-preserved
loop-i-preserved c =
    let a = c.args in
    let l = c.loop-i in
    let h : l.i < a.n = omega (arith, length-take a.n a.lengths.now) in (
      omega (arith, get_or-take a.n a.lengths.now l.i 0 h, sum_more l.i a.lengths.now),
      starts_more l.i _ l.starts (omega arith) l.invariant.0 l.invariant.1,
    )
