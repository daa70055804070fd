-- `access_calls::set_syndrome` meets its contract: accepted, `set_marks` promises each column. Assumes nothing.
use mathlib.Core.Path.{sym}
use Rattle.access_calls.proofs.Refusals.{set-syndrome_met}
use Rattle.access_calls.proofs.set_syndrome.Goals as goal

pub set_marks-requires-clause-by_index : goal.set_marks-requires-clause-by_index
set_marks-requires-clause-by_index c = (set-syndrome_met _ _ _ _ (sym c.in_ok-set_syndrome_questions.ensures)).1.0

pub set_marks-requires-2-clause-by_index : goal.set_marks-requires-2-clause-by_index
set_marks-requires-2-clause-by_index c = (set-syndrome_met _ _ _ _ (sym c.in_ok-set_syndrome_questions.ensures)).1.1
