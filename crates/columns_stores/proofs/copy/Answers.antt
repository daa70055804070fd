-- `columns_stores::copy` meets its contract. Invariant: i elements are copied. Assumes nothing.
use mathlib.Core.Path.{refl, ap, ◌∙◌}
use Prim.Native.Nat.{◌+◌}
use native.Mathlib.Omega.{arith}
use lib.ListN.{length, set, take}
use lib.Seq.{sets, length-sets}
use Rattle.columns.proofs.Columns.{copy_more, copy-end}
use Rattle.columns_stores.proofs.copy.Goals as goal

pub loop-i-init : goal.loop-i-init
loop-i-init g c = (refl, refl)

pub loop-i-preserved : goal.loop-i-preserved
loop-i-preserved g c =
    let at = c.loop-i in
    let s = c.args in
    let x = c.index-from-i.result in
    let next =
    ap (λ l. set l at.i x) at.invariant.1
    ∙ ap (λ y. set (sets s.to.now 0 (take at.i s.from.now)) at.i y) c.index-from-i.is
    ∙ copy_more s.to.now s.from.now at.i x (omega arith) in
    (ap length next ∙ length-sets s.to.now 0 (take (at.i + 1) s.from.now), next)

pub shape_of-to : goal.shape_of-to
shape_of-to g c = c.loop-i.invariant.0

pub returns : goal.returns
returns g c =
    let at = c.loop-i in
    let s = c.args in
    at.invariant.1 ∙ copy-end s.to.now s.from.now s.n at.i (omega arith) (omega arith)
