-- `columns_marks::push_if` meets its contract: each case of ok is that of `when`: one number is stored and counted, or none. Assumes nothing.
use mathlib.Core.Path.{refl}
use native.Mathlib.Omega.{arith}
use Rattle.columns_marks.proofs.push_if.Goals as goal

pub returns-then-ok : goal.returns-then-ok
returns-then-ok c = rw c.if-ok.true (refl, refl)

pub returns : goal.returns
returns c = rw c.if-ok.false (omega arith, refl)
