-- Equal probabilities have equal weights: two f64 numbers that are equal are the same one, or each is 0 or negative zero. Assumes nothing.
use mathlib.Core.Path.{◌≡◌, refl, sym, ap, ◌∙◌}
use mathlib.Core.Logic.{◌⊎◌, inl, inr, ⊎_elim}
use mathlib.Core.Bool.{Bool, true, false, ◌||◌, beq, cond, false≢true}
use Prim.Native.Nat.{ℕ, zero, suc, ◌+◌, ◌-◌, ◌*◌, ◌/◌, ◌^◌}
use native.Mathlib.Nat.{mul_comm, mul_assoc, zero-mul, mul-pos, zero-lt-suc}
use native.Mathlib.Omega.{arith}
use lib.Dec.{T, eqb}
use lib.IntN.{ℤ}
use lib.Ieee.{Float, nan, inf, fin, binary64, up, down, size, hid, top, eq, of_bits, to_bits, fits}
use lib.Ieee.Bits.{of_bits-to_bits}
use lib.Ieee.Fits.{up_pos, down_pos}
use lib.Ieee.Nearest.{div_same}
use borrow.Author.Tests.{eqb-true}
use Rattle.columns.specs.Places.{zero_float}
use Rattle.columns.proofs.Tests.{and_both}
use Rattle.weights_recipe.specs.Logarithm.{edge_weight}
use Rattle.weights_recipe.proofs.Recipe.{at_zero}

-- the bits of a number, by its magnitude in units of the smallest value
abbrev pattern : Bool → ℕ → ℕ
pattern s n = let k = size n - 53 in cond s (top binary64) 0 + k * hid binary64 + n / 2 ^ k

-- numbers of the same sign and magnitude have the same bits
same_bits : (s : Bool) (m : ℕ) (e : ℤ) (n : ℕ) (d : ℤ) → m * up e * down d ≡ n * up d * down e → to_bits binary64 (fin s m e) ≡ to_bits binary64 (fin s n d)
unfolding to_bits
same_bits s m e n d h =
    ap (pattern s)
    (div_same (m * up e * 2 ^ 1074) (down e) (n * up d * 2 ^ 1074) (down d) (down_pos e) (down_pos d)
    (swap (m * up e) (2 ^ 1074) (down d) ∙ ap (λ (x : ℕ). x * 2 ^ 1074) h ∙ sym (swap (n * up d) (2 ^ 1074) (down e))))
  where
    swap : (a b c : ℕ) → a * b * c ≡ a * c * b
    swap a b c = mul_assoc a b c ∙ ap (λ (x : ℕ). a * x) (mul_comm b c) ∙ sym (mul_assoc a c b)

same : (x y : Float) → T (fits binary64 x) → T (fits binary64 y) → to_bits binary64 x ≡ to_bits binary64 y → x ≡ y
same x y f g e = sym (of_bits-to_bits binary64 x f) ∙ ap (of_bits binary64) e ∙ of_bits-to_bits binary64 y g

-- a number of magnitude 0 equals 0
equals_zero : (s : Bool) (m : ℕ) (e d : ℤ) → m * up e * down d ≡ 0 → eq (fin s m e) zero_float ≡ true
unfolding eq of_bits
equals_zero s (suc m) e d h = absurd (omega (arith, mul-pos (mul-pos (zero-lt-suc m) (up_pos e)) (down_pos d)))
equals_zero true zero e d h = simp zero-mul
equals_zero false zero e d h = simp zero-mul

-- numbers that are equal are the same, or both equal 0
the_same : (x y : Float) → T (fits binary64 x) → T (fits binary64 y) → eq x y ≡ true → (x ≡ y) ⊎ ((eq x zero_float ≡ true) × (eq y zero_float ≡ true))
unfolding eq
the_same nan y f g h = absurd (false≢true h)
the_same (inf s) nan f g h = absurd (false≢true h)
the_same (inf true) (inf true) f g h = inl refl
the_same (inf true) (inf false) f g h = absurd (false≢true h)
the_same (inf false) (inf true) f g h = absurd (false≢true h)
the_same (inf false) (inf false) f g h = inl refl
the_same (inf s) (fin t n d) f g h = absurd (false≢true h)
the_same (fin s m e) nan f g h = absurd (false≢true h)
the_same (fin s m e) (inf t) f g h = absurd (false≢true h)
the_same (fin s m e) (fin t n d) f g h = signs s t f g both.1
  where
    a : ℕ
    a = m * up e * down d

    both : (eqb a (n * up d * down e) ≡ true) × ((beq s t || eqb a 0) ≡ true)
    both = and_both (eqb a (n * up d * down e)) (beq s t || eqb a 0) h

    level : a ≡ n * up d * down e
    level = eqb-true a (n * up d * down e) both.0

    zeros : (s t : Bool) → eqb a 0 ≡ true → (eq (fin s m e) zero_float ≡ true) × (eq (fin t n d) zero_float ≡ true)
    zeros s t z = let i = eqb-true a 0 z in (equals_zero s m e d i, equals_zero t n d e (sym level ∙ i))

    signs : (s t : Bool) → T (fits binary64 (fin s m e)) → T (fits binary64 (fin t n d)) → (beq s t || eqb a 0) ≡ true
        → (fin s m e ≡ fin t n d) ⊎ ((eq (fin s m e) zero_float ≡ true) × (eq (fin t n d) zero_float ≡ true))
    signs true true f g z = inl (same (fin true m e) (fin true n d) f g (same_bits true m e n d level))
    signs false false f g z = inl (same (fin false m e) (fin false n d) f g (same_bits false m e n d level))
    signs true false f g z = inr (zeros true false z)
    signs false true f g z = inr (zeros false true z)

pub equal_weights : (x y : Float) → T (fits binary64 x) → T (fits binary64 y) → eq x y ≡ true → edge_weight x ≡ edge_weight y
equal_weights x y f g h = ⊎_elim (λ e. ap edge_weight e) (λ z. at_zero x z.0 ∙ sym (at_zero y z.1)) (the_same x y f g h)
