-- `build_old_to_new` and `translated_defect_to_reordered`: the order list's own length is the vertex count.
use Rattle.std.specs.Prelude.{ℕ, ◌≡◌, ◌&&◌, List, length, leb, Result}
use Rattle.columns.specs.Limits.{vertex_limit}
use Rattle.columns.specs.Lists.{after}
use Rattle.columns.specs.Questions.{ask, all_below}
use Rattle.columns.specs.declared.refusal.Refusal.{Refusal}
use Rattle.columns_answers.specs.Said.{said, Answered}
use Rattle.reorder_orders.specs.Order.{none_twice, old_to_new, renamed}

-- ---- build_old_to_new

-- Questions at the door, 6, 11, 13 and 14, in order, of `build_old_to_new`; there are no vertex columns, so 11 asks of the order list's own length.
unfoldable pub build_refusal : (order column : List ℕ) → ℕ
build_refusal order column =
    ask (leb (length order) (length column)) 6
    (ask (leb (length order) vertex_limit) 11
    (ask (all_below (length order) order) 13
    (ask (none_twice order) 14 0)))

-- Sampling, syndromes, reordering, paragraph 2, sentence 5: the answer, and the new number of each old vertex.
pub record BuiltOldToNew (order column₀ : List ℕ) (answer : Result (Unit {0}) Refusal) (column : List ℕ) : Type 0 where
  pub answers : Answered (said tt answer) (build_refusal order column₀) tt tt
  pub column_after : column ≡ after (build_refusal order column₀) (old_to_new order) column₀

-- ---- translated_defect_to_reordered

-- Questions at the door, 6, 11, 13 of both lists, and 14, in order, of `translated_defect_to_reordered`.
unfoldable pub translate_refusal : (order list column : List ℕ) → ℕ
translate_refusal order list column =
    ask (leb (length list) (length column)) 6
    (ask (leb (length order) vertex_limit) 11
    (ask (all_below (length order) order && all_below (length order) list) 13
    (ask (none_twice order) 14 0)))

-- Sampling, syndromes, reordering, paragraph 2, sentence 4: a translated list keeps its order; the answer, how many numbers were translated, and the column afterwards.
pub record TranslatedDefects (order list column₀ : List ℕ) (answer : Result ℕ Refusal) (column : List ℕ) : Type 0 where
  pub answers : Answered (said 0 answer) (translate_refusal order list column₀) (length list) 0
  pub column_after : column ≡ after (translate_refusal order list column₀) (renamed order list) column₀
