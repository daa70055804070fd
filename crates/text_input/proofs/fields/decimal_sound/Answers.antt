-- `text_input::fields::decimal_sound` meets its contract: each callee promises one part of the definition, and byte k from `at` on is byte at + k. Assumes nothing.
use mathlib.Core.Path.{◌≡◌, sym, ap, ◌∙◌}
use mathlib.Core.Bool.{not, ◌&&◌, ◌||◌}
use mathlib.Core.List.{List}
use Prim.Native.Nat.{ℕ, ◌+◌}
use native.Mathlib.Omega.{arith}
use lib.Dec.{leb, eqb}
use lib.ListN.{get_or, drop}
use lib.Seq.{get_or-drop}
use Rattle.text_input.specs.Line.{digits, decimal_sound}
use Rattle.text_input.proofs.fields.decimal_sound.Goals as goal

pub returns : goal.returns
unfolding decimal_sound
returns c =
    let s = c.args in
    let t : List ℕ = drop s.at s.text.now in
    let n : s.n ≡ digits t = c.requires.2 in
    let few = ap (λ (k : ℕ). leb 1 k && leb k 9) n in
    let zero : s.at + 0 ≡ s.at = omega arith in
    let first : c.byte_at.result ≡ get_or t 0 0 = c.byte_at.ensures ∙ ap (λ (k : ℕ). get_or s.text.now k 0) (sym zero) ∙ sym (get_or-drop s.at s.text.now 0 0) in
    let plain = c.no_leading_zero-plain.ensures ∙ (λ k. eqb (n k) 1 || not (eqb (first k) 48)) in
    let last : c.byte_at-2.result ≡ get_or t (digits t) 0 = c.byte_at-2.ensures ∙ sym (get_or-drop s.at s.text.now s.n 0) ∙ ap (λ (k : ℕ). get_or t k 0) n in
    (λ k. few k && (plain k && eqb (last k) s.stop))
