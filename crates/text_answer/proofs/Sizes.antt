-- Every text fits the text column. Assumes nothing.
use Prim.Native.Nat.{ℕ, ◌≤◌}
use mathlib.Core.Bool.{Bool, true, false}
use lib.ListN.{length}
use lib.Ieee.{binary64, of_bits}
use Rattle.text_input.specs.declared.CodeLine.{CodeLine}
use Rattle.std.specs.Prelude.{Option}
use Rattle.text_input.specs.Line.{well_formed, line_of, line_said}
use Rattle.text_listing.proofs.Sizes.{one_line, code_few}
use Rattle.text_answer.specs.Answer.{text_by, text_of, text_room}
use Rattle.text_answer.specs.Claims.{EveryTextFits}

by_few : (b : Bool) (l : CodeLine) → length (text_by b l) ≤ text_room
by_few false l = one_line 0x72 1
by_few true l = code_few l.kind l.d l.rounds (of_bits binary64 l.bits) l.max

pub text_few : (r : Option CodeLine) → length (text_of r) ≤ text_room
text_few r = by_few (line_said r).accepted (line_said r).values

pub every_text_fits : EveryTextFits
every_text_fits input = by_few (well_formed input) (line_of input)
