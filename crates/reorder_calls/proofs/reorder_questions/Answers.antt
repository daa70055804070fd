-- `reorder_calls::reorder_questions` meets its contract: sound columns have at most 4,096 vertices. Assumes nothing.
use mathlib.Core.Path.{sym, ◌∙◌}
use Rattle.reorder_calls.proofs.Accepting.{sound_few}
use Rattle.reorder_calls.proofs.reorder_questions.Goals as goal

pub vertex_order_questions-requires : goal.vertex_order_questions-requires
vertex_order_questions-requires c = (sound_few _ _ _ _ _ _ (sym c.columns_sound-sound.ensures ∙ c.in_ok-require-2.ensures.ok)).graph.few_vertices
