-- `access_calls::get_syndrome` meets its contract: accepted, `list_set` promises each list and its length. Assumes nothing.
use mathlib.Core.Path.{sym}
use Rattle.access_calls.proofs.Refusals.{get_syndrome_met}
use Rattle.access_calls.proofs.get_syndrome.Goals as goal

pub list_set-defects-requires : goal.list_set-defects-requires
list_set-defects-requires c = (get_syndrome_met _ _ _ _ (sym c.in_ok-get_syndrome_questions.ensures)).0

pub list_set-erasures-requires : goal.list_set-erasures-requires
list_set-erasures-requires c = (get_syndrome_met _ _ _ _ (sym c.in_ok-get_syndrome_questions.ensures)).1
