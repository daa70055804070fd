-- The text for a line, and the call. Assumes nothing.
use mathlib.Core.Path.{◌≡◌, refl, sym, ap, ◌∙◌}
use mathlib.Core.Bool.{Bool, true, false}
use mathlib.Core.List.{List}
use Prim.Native.Nat.{ℕ, ◌≤◌, ◌<◌}
use native.Mathlib.Omega.{arith}
use lib.ListN.{length}
use lib.Seq.{sets}
use lib.Ieee.{Float, binary64, of_bits}
use borrow.Author.Tests.{le-leb, lt-leb}
use Rattle.columns.specs.Questions.{ask}
use Rattle.columns.proofs.Columns.{after-accepted, after-refused, sets_over}
use Rattle.columns.proofs.Refusals.{met}
use Rattle.columns_answers.proofs.Said.{accepts-of, refuses-of, zero_of, values_of}
use Rattle.text_numbers.specs.Text.{refusal_line}
use Rattle.text_numbers.specs.Steps.{Put}
use Rattle.text_input.specs.declared.CodeLine.{CodeLine}
use Rattle.std.specs.Prelude.{Option, None, Some, Ok}
use Rattle.text_input.specs.Line.{well_formed, line_of, ReadsLine}
use Rattle.text_listing.specs.Listing.{code_text}
use Rattle.text_listing.proofs.Texts.{renamed, fitting}
use Rattle.text_answer.specs.Answer.{text_by, text_of, answer_text, text_room, text_refusal, CodeListed}
use Rattle.text_answer.proofs.Sizes.{every_text_fits}

-- a line that is not well formed
pub damaged_line : (l : Option CodeLine) {text₀ text : List ℕ} {r : ℕ} → Put text₀ 0 (refusal_line 1) text r → l ≡ None → Put text₀ 0 (text_of l) text r
damaged_line l p q = renamed (ap text_of (sym q)) p

-- a line that was read has the text of its input
read_text : (input : List ℕ) (l : Option CodeLine) → ReadsLine input l → text_of l ≡ answer_text input
read_text input (Some l) a =
    let z = zero_of a in
    let w : well_formed input ≡ true = met (well_formed input) 0 0 z in
    λ i. text_by (sym w i) (values_of a z i)
read_text input None a = go (well_formed input) a.number_is
  where
    go : (b : Bool) → 1 ≡ ask b 1 0 → refusal_line 1 ≡ text_by b (line_of input)
    go false e = refl
    go true e = absurd (omega (arith, e))

-- ---- the call

pub long_enough_lem : (input text₀ text : List ℕ) (l : Option CodeLine) (r : ℕ) → text_room ≤ length text₀ → ReadsLine input l → Put text₀ 0 (text_of l) text r → CodeListed input text₀ text (Ok r)
long_enough_lem input text₀ text l r h e p =
    let q : text_refusal text₀ ≡ 0 = ap (λ (b : Bool). ask b 6 0) (le-leb text_room (length text₀) h) in
    let same : text_of l ≡ answer_text input = read_text input l e in
    let fits : length (answer_text input) ≤ length text₀ = omega (arith, every_text_fits input) in
    let next : r ≡ length (answer_text input) = p.next ∙ omega (arith, ap length same) in
    record {
      answers = rw next (accepts-of q);
      text_after = p.stored ∙ ap (sets text₀ 0) same ∙ sets_over text₀ (answer_text input) fits ∙ sym (after-accepted (text_refusal text₀) (answer_text input) text₀ q);
    }
