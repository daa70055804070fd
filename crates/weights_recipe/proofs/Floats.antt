-- Facts about the constants, and about the bits of 0. Assumes nothing.
use Rattle.std.proofs.Common.{◌≡◌, ◌^◌, Bool, true, false, not, ◌||◌, T, sym, refl, ap, ◌∙◌, subst, true≢false, eqb→eq}
use lib.Dec.{not_T}
use lib.Ieee.{Float, nan, inf, fin, binary64, eq, of_bits, to_bits, fits, is_nan}
use lib.Ieee.Bits.{is_false, of_bits-to_bits}
use lib.Ieee.Exact.{HasValue}
use lib.Ieee.Positive.{positive}
use Rattle.columns.specs.Places.{zero_float, one, half}
use Rattle.weights_recipe.specs.Constants.{two, three, thirty_five, least_p}
use Rattle.weights_recipe.specs.Probabilities.{is_plus_zero, is_in_range, is_probability}

-- ---- what the constants are

pub one_is : HasValue one false 1 1
unfolding of_bits
one_is = (refl, refl)

pub two_is : HasValue two false 2 1
unfolding of_bits
two_is = (refl, refl)

pub three_is : HasValue three false 3 1
unfolding of_bits
three_is = (refl, refl)

pub thirty_five_is : HasValue thirty_five false 35 1
unfolding of_bits
thirty_five_is = (refl, refl)

pub half_is : HasValue half false 1 2
unfolding of_bits
half_is = (refl, refl)

pub least_is : HasValue least_p false 1 (2 ^ 40)
unfolding of_bits
least_is = (refl, refl)

pub one_pos : T (positive one)
unfolding of_bits
one_pos = tt

pub two_pos : T (positive two)
unfolding of_bits
two_pos = tt

pub half_pos : T (positive half)
unfolding of_bits
half_pos = tt

pub least_pos : T (positive least_p)
unfolding of_bits
least_pos = tt

-- ---- the bits of 0

-- what equals a number is no NaN
pub equal_no_nan : (x y : Float) → eq x y ≡ true → T (not (is_nan x))
unfolding eq is_nan
equal_no_nan nan y e = absurd (true≢false (sym e))
equal_no_nan (inf s) y e = tt
equal_no_nan (fin s m d) y e = tt

pub one_number : T (not (is_nan one))
unfolding is_nan of_bits
one_number = tt

pub one_not_zero : is_plus_zero one ≡ false
unfolding of_bits to_bits
one_not_zero = refl

-- the f64 whose bits are all 0 is 0
plus_zero : (p : Float) → T (fits binary64 p) → is_plus_zero p ≡ true → p ≡ zero_float
plus_zero p f e = sym (of_bits-to_bits binary64 p f) ∙ ap (of_bits binary64) (eqb→eq (to_bits binary64 p) 0 (subst T (sym e) tt))

-- what a test tells from 0 does not have the bits of 0
not_plus_zero : (t : Float → Bool) (b : Bool) (p : Float) → T (fits binary64 p) → t p ≡ b → (t zero_float ≡ b → ⊥) → is_plus_zero p ≡ false
not_plus_zero t b p f h k =
    is_false (is_plus_zero p)
    (not_T (is_plus_zero p) (λ z. k (subst (λ (x : Float). t x ≡ b) (plus_zero p f (lib.Ieee.Bits.is_true (is_plus_zero p) z)) h)))

pub zero_equal : eq zero_float zero_float ≡ true
unfolding eq of_bits
zero_equal = refl

pub unequal_zero : (p : Float) → T (fits binary64 p) → eq p zero_float ≡ false → is_plus_zero p ≡ false
unequal_zero p f h = not_plus_zero (λ (x : Float). eq x zero_float) false p f h (λ e. true≢false (sym zero_equal ∙ e))

-- an accepted p that is not 0 is in the range
pub in_range : (p : Float) → is_probability p ≡ true → is_plus_zero p ≡ false → T (is_in_range p)
unfolding is_probability
in_range p e h = subst T (sym (sym (ap (λ (z : Bool). z || is_in_range p) h) ∙ e)) tt
