-- `text_input::fields::are_hex` meets its contract. Invariant: the first i bytes from `at` on are hexadecimal digits. Assumes nothing.
use mathlib.Core.Path.{◌≡◌, refl, sym, ap, ◌∙◌}
use mathlib.Core.Bool.{true}
use mathlib.Core.List.{List, [], ◌∷◌}
use Prim.Native.Nat.{ℕ, ◌≤◌}
use native.Mathlib.Omega.{arith}
use lib.ListN.{take, drop, length-drop}
use lib.Seq.{get_or-drop}
use Rattle.columns.specs.Questions.{all}
use Rattle.columns.proofs.Tests.{all_more, all-fails}
use Rattle.text_input.specs.Line.{is_hex_digit}
use Rattle.text_input.proofs.fields.are_hex.Goals as goal

none : (t : List ℕ) → all is_hex_digit (take 0 t) ≡ true
unfolding all
none [] = refl
none (x ∷ t) = refl

sixteen : (i : ℕ) → i ≤ 16 → 16 ≤ i → 16 ≡ i
sixteen i a b = omega arith

pub loop-i-init : goal.loop-i-init
loop-i-init c = none (drop c.args.at c.args.text.now)

pub returns-then-not-is_hex_digit : goal.returns-then-not-is_hex_digit
returns-then-not-is_hex_digit c =
    let s = c.args in
    let l = c.loop-i in
    let fails = ap is_hex_digit (get_or-drop s.at s.text.now l.i 0) ∙ sym c.is_hex_digit.ensures ∙ c.if-not-is_hex_digit.true in
    sym (all-fails is_hex_digit (drop s.at s.text.now) 0 16 l.i (omega arith) (omega (arith, length-drop s.at s.text.now)) fails)

pub loop-i-preserved : goal.loop-i-preserved
loop-i-preserved c =
    let s = c.args in
    let l = c.loop-i in
    let passes = ap is_hex_digit (get_or-drop s.at s.text.now l.i 0) ∙ sym c.is_hex_digit.ensures ∙ c.if-not-is_hex_digit.false in
    all_more is_hex_digit (drop s.at s.text.now) 0 l.i (omega (arith, length-drop s.at s.text.now)) l.invariant passes

pub returns : goal.returns
returns c =
    let s = c.args in
    let l = c.loop-i in
    sym (ap (λ (k : ℕ). all is_hex_digit (take k (drop s.at s.text.now))) (sixteen l.i (omega arith) (omega arith)) ∙ l.invariant)
