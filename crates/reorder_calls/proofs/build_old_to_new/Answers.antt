-- `reorder_calls::build_old_to_new` meets its contract: where no question fails, the order is one and the column has room. Assumes nothing.
use mathlib.Core.Path.{sym}
use Rattle.reorder_calls.proofs.Accepting.{build-met}
use Rattle.reorder_calls.proofs.build_old_to_new.Goals as goal

pub place_numbers-requires : goal.place_numbers-requires
place_numbers-requires c = build-met _ _ (sym c.in_ok-build_questions.ensures)
