-- `reorder_calls::translated_defect_to_reordered` meets its contract: where no question fails, the order is one, names what is listed, and the column has room. Assumes nothing.
use mathlib.Core.Path.{sym}
use Rattle.reorder_calls.proofs.Accepting.{translate-met}
use Rattle.reorder_calls.proofs.translated_defect_to_reordered.Goals as goal

pub translate-requires : goal.translate-requires
translate-requires c =
    let k = translate-met _ _ _ (sym c.in_ok-translate_questions.ensures) in
    record { order = (k.order_is, k.room); by_index = k.listed }
