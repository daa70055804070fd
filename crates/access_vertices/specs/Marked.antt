-- is_virtual, is_defect: which question refuses (0 for none), and the answer.
use Rattle.std.specs.Prelude.{ℕ, Result, Bool, false, ◌&&◌, List, leb, ltb, length, get_or}
use Rattle.columns.specs.declared.refusal.Refusal.{Refusal}
use Rattle.columns.specs.Questions.{ask, vertex_count_sound}
use Rattle.columns_answers.specs.Said.{said, Answered}
use Rattle.columns_marks.specs.Marks.{is_set}

-- Questions at the door, 6, 7 and 13, in order; `sound` is question 7 of the bytes.
abbrev pub is_marked_refusal : (sound : Bool) (v : ℕ) (column : List ℕ) (vertex : ℕ) → ℕ
is_marked_refusal sound v column vertex = ask (leb v (length column)) 6 (ask (vertex_count_sound v && sound) 7 (ask (ltb vertex v) 13 0))

-- Records, on vertices: whether a vertex is virtual, by its boundary byte, or a defect, by its defect byte; the answer.
abbrev pub IsMarked : (sound : Bool) (v : ℕ) (column : List ℕ) (vertex : ℕ) → Result Bool Refusal → Type 0
IsMarked sound v column vertex r = Answered (said false r) (is_marked_refusal sound v column vertex) (is_set (get_or column vertex 0)) false
