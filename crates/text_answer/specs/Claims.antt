-- What is proved of the texts.
use Rattle.std.specs.Prelude.{ℕ, ◌≤◌, List, length}
use Rattle.text_answer.specs.Answer.{answer_text, text_room}

-- The program codelist; Questions at the door, 6: every input of any length has a text, and it fits the text column.
abbrev pub EveryTextFits : Type 0
EveryTextFits = (input : List ℕ) → length (answer_text input) ≤ text_room
