-- `reorder_calls::lists::copy_run` meets its contract: after i turns the first i numbers are stored. Assumes nothing.
use mathlib.Core.Path.{refl}
use native.Mathlib.Omega.{arith}
use lib.ListN.{length-set}
use Rattle.reorder_calls.proofs.Moving.{run_more}
use Rattle.reorder_calls.proofs.lists.copy_run.Goals as goal

pub loop-i-init : goal.loop-i-init
loop-i-init c = (refl, refl)

pub loop-i-preserved : goal.loop-i-preserved
loop-i-preserved c =
    let a = c.args in
    let l = c.loop-i in
    (run_more a.from.now a.start a.to.now a.at l.i (omega (arith, c.requires.0)) l.invariant.0, simp length-set l.invariant.1)

pub shape_of-to : goal.shape_of-to
shape_of-to c = c.loop-i.invariant.1
