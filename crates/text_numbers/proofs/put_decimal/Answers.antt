-- `text_numbers::put_decimal` meets its contract. Invariant: with the digits that are left the text is what is to be put. Assumes nothing.
use mathlib.Core.Path.{◌≡◌, refl, sym, ap, ◌∙◌}
use mathlib.Core.List.{List, [], ◌∷◌}
use Prim.Native.Nat.{ℕ, ◌-◌, ◌≤◌}
use native.Mathlib.Numerals.{add-one}
use native.Mathlib.Omega.{arith}
use lib.ListN.{length, length-set}
use lib.Seq.{sets}
use Rattle.text_numbers.specs.Text.{size_in, digits_of, decimal}
use Rattle.text_numbers.specs.Steps.{Put}
use Rattle.text_numbers.proofs.Sizes.{digits_long, digit_next}
use Rattle.text_numbers.proofs.put_decimal.Goals as goal

whole : (n k : ℕ) → k ≡ size_in 9 n → digits_of k n ≡ decimal n
unfolding decimal
whole n k e = ap (λ (j : ℕ). digits_of j n) e

-- one digit put
turn : (text text' : List ℕ) (next next' b d : ℕ) (ds : List ℕ) → Put text next (b ∷ []) text' next' → b ≡ d → sets text' next' ds ≡ sets text next (d ∷ ds)
turn text text' next next' b d ds p e = (λ i. sets (p.stored i) ((p.next ∙ add-one next) i) ds) ∙ ap (λ (x : ℕ). sets text next (x ∷ ds)) e

ended : (text goal : List ℕ) (next k n : ℕ) → k ≤ 0 → sets text next (digits_of k n) ≡ goal → text ≡ goal
unfolding digits_of
ended text goal next k n h e = let z : 0 ≡ k = omega arith in ap (λ (j : ℕ). sets text next (digits_of j n)) z ∙ e

pub loop-k-init : goal.loop-k-init
loop-k-init c =
    let s = c.args in
    let w = whole s.n c.size-k.result c.size-k.ensures.0 in (
      c.size-k.ensures.1,
      refl,
      ap (sets s.text.now s.at) w,
      omega (arith, ap length w, digits_long c.size-k.result s.n),
      omega (arith, c.size-k.ensures.1),
    )

pub digit-requires : goal.digit-requires
digit-requires c = omega (arith, c.loop-k.invariant.0)

pub put_byte-next-requires : goal.put_byte-next-requires
put_byte-next-requires c = omega (arith, c.loop-k.invariant.4, c.requires)

pub loop-k-preserved : goal.loop-k-preserved
loop-k-preserved c =
    let s = c.args in
    let l = c.loop-k in
    let p = c.put_byte-next.ensures in (
      omega (arith, l.invariant.0),
      ap length p.stored ∙ length-set l.text l.next _ ∙ l.invariant.1,
      turn l.text _ l.next _ _ _ (digits_of (l.k - 1) s.n) p c.digit.ensures ∙ ap (sets l.text l.next) (sym (digit_next l.k s.n (omega arith))) ∙ l.invariant.2,
      omega (arith, p.next, l.invariant.3),
      omega (arith, p.next, l.invariant.4),
    )

pub shape_of-text : goal.shape_of-text
shape_of-text c = c.loop-k.invariant.1

pub returns : goal.returns
returns c =
    let s = c.args in
    let l = c.loop-k in
    record { stored = ended l.text _ l.next l.k s.n (omega arith) l.invariant.2; next = omega (arith, l.invariant.3) }
