-- `columns::questions::all_pass` meets its contract. Invariant: whether the elements passed so far pass the test. Assumes nothing.
use mathlib.Core.Path.{◌≡◌}
use mathlib.Core.Bool.{Bool}
use lib.ListN.{take}
use Rattle.columns.specs.Questions.{all, Decides}
use Rattle.columns.proofs.questions.all_pass.Given as goal

abbrev pub invariant-loop-x : goal.invariant-loop-x
invariant-loop-x g l = (passes : g.row.T.Denot → Bool) → Decides (goal.F-post g l.test) passes → l.pass ≡ all passes (take l.x-index l.x-items)
