-- What `codelist` prints for an input: document 01, "The program `codelist`".
use Rattle.std.specs.Prelude.{ℕ, ◌≡◌, Bool, true, false, List, leb, length, Option, Result}
use Rattle.std.specs.Float.{binary64}
use Rattle.std.specs.Float.Ieee.{of_bits}
use Rattle.columns.specs.Lists.{after}
use Rattle.columns.specs.Questions.{ask}
use Rattle.columns.specs.declared.refusal.Refusal.{Refusal}
use Rattle.columns_answers.specs.Said.{said, Answered}
use Rattle.text_input.specs.declared.CodeLine.{CodeLine}
use Rattle.text_input.specs.Line.{well_formed, line_of, line_said}
use Rattle.text_numbers.specs.Text.{refusal_line}
use Rattle.text_listing.specs.Listing.{code_text}

-- ---- the text for an input

-- The program codelist, sentences 1 and 4: the text by whether question 1 is met, and the five numbers.
abbrev pub text_by : Bool → CodeLine → List ℕ
text_by true l = code_text l.kind l.d l.rounds (of_bits binary64 l.bits) l.max
text_by false l = refusal_line 1

-- The program codelist: the text for a line that was read.
abbrev pub text_of : Option CodeLine → List ℕ
text_of r = text_by (line_said r).accepted (line_said r).values

-- The program codelist: the text for an input.
abbrev pub answer_text : (input : List ℕ) → List ℕ
answer_text input = text_by (well_formed input) (line_of input)

-- ---- the call

-- Questions at the door, 6: the places that a text column needs: no text is longer.
abbrev pub text_room : ℕ
text_room = 320000

-- Questions at the door, 6, of the text column.
abbrev pub text_refusal : List ℕ → ℕ
text_refusal text = ask (leb text_room (length text)) 6 0

-- The program codelist: the call's answer, and the text column before and after.
pub record CodeListed (input text₀ text : List ℕ) (answer : Result ℕ Refusal) : Type 0 where
  pub answers : Answered (said 0 answer) (text_refusal text₀) (length (answer_text input)) 0
  pub text_after : text ≡ after (text_refusal text₀) (answer_text input) text₀
