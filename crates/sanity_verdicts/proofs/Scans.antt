-- Laws of the first finding. Assumes nothing.
use mathlib.Core.Path.{◌≡◌, refl, sym, ap, ◌∙◌}
use mathlib.Core.Bool.{Bool, true, false, false≢true}
use Prim.Native.Nat.{ℕ, zero, suc, ◌+◌, ◌<◌}
use native.Mathlib.Decide.{ℕ_discrete}
use native.Mathlib.Numerals.{add-one}
use native.Mathlib.Omega.{arith}
use Rattle.std.specs.Prelude.{Option, None, Some, is_some}
use Rattle.sanity_verdicts.specs.declared.Finding.{Finding}
use Rattle.sanity_verdicts.specs.Sanity.{or_else, first_of, found_if}

pub none_of : (x : Option Finding) → is_some x ≡ false → x ≡ None
none_of None e = refl
none_of (Some x) e = absurd (false≢true (sym e))

pub or_none : (x y : Option Finding) → x ≡ None → or_else x y ≡ y
or_none x y e = ap (λ (z : Option Finding). or_else z y) e

pub or_found : (x y : Option Finding) → is_some x ≡ true → or_else x y ≡ x
or_found None y e = absurd (false≢true e)
or_found (Some x) y e = refl

pub found_true : (b : Bool) (x : Finding) → b ≡ true → found_if b x ≡ Some x
found_true b x e = ap (λ (t : Bool). found_if t x) e

pub found_false : (b : Bool) (x : Finding) → b ≡ false → found_if b x ≡ None
found_false b x e = ap (λ (t : Bool). found_if t x) e

module _ (f : ℕ → Option Finding) where
  pub first_none : first_of 0 f ≡ None
  unfolding first_of
  first_none = refl

  -- a loop's turn, and a finding that ends it
  pub first_next : (i : ℕ) → first_of i f ≡ None → f i ≡ None → first_of (i + 1) f ≡ None
  unfolding first_of
  first_next i p q = ap (λ (k : ℕ). first_of k f) (add-one i) ∙ or_none (first_of i f) (f i) p ∙ q

  pub first_stop : (n i : ℕ) → i < n → first_of i f ≡ None → is_some (f i) ≡ true → first_of n f ≡ f i
  unfolding first_of
  first_stop zero i h p q = absurd (omega arith)
  first_stop (suc n) i h p q = elim (ℕ_discrete i n) [
    | yes e ↦ or_none (first_of n f) (f n) (ap (λ (k : ℕ). first_of k f) (sym e) ∙ p) ∙ ap f (sym e)
    | no e ↦ ap (λ (z : Option Finding). or_else z (f n)) (first_stop n i (omega arith) p q) ∙ or_found (f i) (f n) q
  ]

  pub first-all : (n : ℕ) → ((i : ℕ) → i < n → f i ≡ None) → first_of n f ≡ None
  unfolding first_of
  first-all zero h = refl
  first-all (suc n) h = or_none (first_of n f) (f n) (first-all n (λ i l. h i (omega arith))) ∙ h n (omega arith)

pub first_same : (n : ℕ) (f g : ℕ → Option Finding) → ((i : ℕ) → i < n → f i ≡ g i) → first_of n f ≡ first_of n g
unfolding first_of
first_same zero f g h = refl
first_same (suc n) f g h = λ k. or_else (first_same n f g (λ i l. h i (omega arith)) k) (h n (omega arith) k)

-- one finding for every number that passes
pub first_any : (test : ℕ → Bool) (x : Finding) (n m : ℕ) → m < n → test m ≡ true → first_of n (λ j. found_if (test j) x) ≡ Some x
unfolding first_of
first_any test x zero m h p = absurd (omega arith)
first_any test x (suc n) m h p = elim (ℕ_discrete m n) [
  | yes e ↦ ap (λ (t : Bool). or_else (first_of n (λ j. found_if (test j) x)) (found_if t x)) (ap test (sym e) ∙ p) ∙ last n
  | no e ↦ ap (λ (z : Option Finding). or_else z (found_if (test n) x)) (first_any test x n m (omega arith) p)
]
  where
    after : (y z : Option Finding) → or_else y (Some x) ≡ Some x → or_else z (Some x) ≡ Some x → or_else (or_else y z) (Some x) ≡ Some x
    after None z e g = g
    after (Some y) z e g = e

    one : (b : Bool) → or_else (found_if b x) (Some x) ≡ Some x
    one true = refl
    one false = refl

    -- what was found before is x too
    last : (k : ℕ) → or_else (first_of k (λ j. found_if (test j) x)) (Some x) ≡ Some x
    last zero = refl
    last (suc k) = after (first_of k (λ j. found_if (test j) x)) (found_if (test k) x) (last k) (one (test k))
