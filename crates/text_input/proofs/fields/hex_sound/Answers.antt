-- `text_input::fields::hex_sound` meets its contract: fewer than 16 bytes fail the first test, else the callees promise the other two. Assumes nothing.
use mathlib.Core.Path.{sym, ap, ◌∙◌}
use mathlib.Core.Bool.{Bool, ◌&&◌}
use mathlib.Core.List.{List}
use Prim.Native.Nat.{ℕ}
use native.Mathlib.Omega.{arith}
use lib.Dec.{eqb}
use lib.ListN.{length, get_or, take, drop, length-drop}
use lib.Seq.{get_or-drop}
use borrow.Author.Tests.{le-leb, lt-leb}
use Rattle.columns.specs.Questions.{all}
use Rattle.text_input.specs.Line.{comma, is_hex_digit, hex_sound}
use Rattle.text_input.proofs.fields.hex_sound.Goals as goal

pub returns-then-text-at : goal.returns-then-text-at
unfolding hex_sound
returns-then-text-at c =
    let s = c.args in
    let t : List ℕ = drop s.at s.text.now in
    sym (ap (λ (b : Bool). (b && all is_hex_digit (take 16 t)) && eqb (get_or t 16 0) comma) (lt-leb 16 (length t) (omega (arith, length-drop s.at s.text.now))))

pub returns : goal.returns
unfolding hex_sound
returns c =
    let s = c.args in
    let t : List ℕ = drop s.at s.text.now in
    let are = c.are_hex-are.ensures ∙ ap (λ (b : Bool). b && all is_hex_digit (take 16 t)) (sym (le-leb 16 (length t) (omega (arith, length-drop s.at s.text.now)))) in
    let last = c.byte_at-ended.ensures ∙ sym (get_or-drop s.at s.text.now 16 0) in
    (λ k. are k && eqb (last k) comma)
