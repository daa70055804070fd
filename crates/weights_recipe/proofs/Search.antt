-- What v reaches, it reaches below: `reaches v` is antitone up to 2 to the power 53, so the numbers that v reaches are found by halving an interval.
-- And the definition in the text's words: `greatest v max` is the greatest n of 0 to max with n = 0 or v ≥ n - 0.5. Assumes nothing.
use Rattle.std.proofs.Common.{◌≡◌, ℕ, zero, suc, ◌-◌, ◌*◌, ◌^◌, ◌<◌, ◌≤◌, Bool, true, false, cond, T, ltb, ◌⊎◌, ℤ, pos, sym, refl, ap, ◌∙◌, subst, inl, inr, zero-le, le_trans, le_of_eq, le_refl, lt_of_lt_of_le, le_of_suc-le-suc, mul-le-mul_right, zero-lt-suc, mul_assoc, mul_comm, eq-or-lt_of_le, mul-pos, suc-ne-zero, not-le_of_lt, mul_left_comm, arith, lit≤, le→leb, ltb→lt}
use native.Mathlib.Nat.{le_step, mul-sub}
use lib.Dec.{not_T}
use lib.Ieee.{Float, nan, inf, fin, Format, binary64, up, down, round, sum, sub, le, of_bits, of_int, in_float}
use lib.Ieee.Bits.{is_false}
use lib.Ieee.Back.{round_whole}
use lib.Ieee.Order.{round_mono}
use lib.Ieee.Positive.{num, den, den_pos, positive, above, above_of_le, positive_of_value, le→cross, le_trans_positive, between}
use Rattle.columns.specs.Places.{half}
use Rattle.weights_recipe.specs.Rounding.{reaches, seek, greatest, IsGreatest}
use Rattle.weights_recipe.proofs.Floats.{half_pos}

-- ---- a difference x - y grows with x
pick : (f : Format) (a b c : ℕ) → b ≤ a → sum f false a true b c ≡ round f false (a - b) c
unfolding sum
pick f a b c h = go (ltb a b) (ltb→lt a b)
  where
    go : (t : Bool) → (T t → a < b) → cond t (round f true (b - a) c) (round f false (a - b) c) ≡ round f false (a - b) c
    go true k = absurd (not-le_of_lt (k tt) h)
    go false k = refl

opened : (f : Format) (m : ℕ) (e : ℤ) (n : ℕ) (d : ℤ) → sub f (fin false m e) (fin false n d) ≡ sum f false (m * up e * down d) true (n * up d * down e) (down e * down d)
unfolding sub
opened f m e n d = refl

sub_is : (f : Format) (x y : Float) → T (positive x) → T (positive y) → T (le y x) → sub f x y ≡ round f false (num x * den y - num y * den x) (den x * den y)
sub_is f nan y p q h = absurd p
sub_is f (inf s) y p q h = absurd p
sub_is f (fin true m e) y p q h = absurd p
sub_is f (fin false m e) nan p q h = absurd q
sub_is f (fin false m e) (inf t) p q h = absurd q
sub_is f (fin false m e) (fin true n d) p q h = absurd q
sub_is f (fin false m e) (fin false n d) p q h = opened f m e n d ∙ pick f (m * up e * down d) (n * up d * down e) (down e * down d) (le→cross (fin false n d) (fin false m e) q p h)

less : (p q r s : ℕ) → q ≡ s → p ≤ r → p - q ≤ r - s
less p q r s e h = omega arith

-- X / dx - Y / dy ≤ Z / dz - Y / dy for X / dx ≤ Z / dz
grow : (X dx Y dy Z dz : ℕ) → X * dz ≤ Z * dx → (X * dy - Y * dx) * (dz * dy) ≤ (Z * dy - Y * dz) * (dx * dy)
grow X dx Y dy Z dz h =
    let a : dz * dy * (Y * dx) ≡ dx * dy * (Y * dz) = simp (mul_assoc, mul_comm, mul_left_comm) in
    let b : dz * dy * (X * dy) ≤ dx * dy * (Z * dy) = simp (mul_assoc, mul_comm, mul_left_comm) (simp (mul_assoc, mul_comm, mul_left_comm) at (mul-le-mul_right (dy * dy) h)) in
    le_trans (le_of_eq (mul_comm (X * dy - Y * dx) (dz * dy) ∙ mul-sub (dz * dy) (X * dy) (Y * dx)))
    (le_trans (less (dz * dy * (X * dy)) (dz * dy * (Y * dx)) (dx * dy * (Z * dy)) (dx * dy * (Y * dz)) a b)
    (le_of_eq (sym (mul_comm (Z * dy - Y * dz) (dx * dy) ∙ mul-sub (dx * dy) (Z * dy) (Y * dz)))))

pub sub_mono : (f : Format) (x x' y : Float) → T (positive x) → T (positive x') → T (positive y) → T (le x x') → T (le y x) → T (le (sub f x y) (sub f x' y))
sub_mono f x x' y p p' q h k =
    subst (λ (z : Float). T (le z (sub f x' y))) (sym (sub_is f x y p q k))
    (subst (λ (z : Float). T (le (round f false (num x * den y - num y * den x) (den x * den y)) z)) (sym (sub_is f x' y p' q (le_trans_positive y x x' q p p' k h)))
    (round_mono f (num x * den y - num y * den x) (den x * den y) (num x' * den y - num y * den x') (den x' * den y) (mul-pos (den_pos x) (den_pos y)) (mul-pos (den_pos x') (den_pos y))
    (grow (num x) (den x) (num y) (den y) (num x') (den x') (le→cross x x' p p' h))))

-- ---- n and n - 0.5 as floats
abbrev fl : ℕ → Float
fl n = of_int binary64 (pos n)

fl_is : (n : ℕ) → fl n ≡ round binary64 false n 1
unfolding of_int
fl_is n = refl

fl_pos : (n : ℕ) → 0 < n → n ≤ 2 ^ 53 → T (positive (fl n))
fl_pos n h k = subst (λ (x : Float). T (positive x)) (sym (fl_is n)) (positive_of_value (round binary64 false n 1) n 1 (round_whole binary64 false n k) h)

fl_mono : (a b : ℕ) → a ≤ b → T (le (fl a) (fl b))
unfolding of_int
fl_mono a b h = round_mono binary64 a 1 b 1 (zero-lt-suc 0) (zero-lt-suc 0) (mul-le-mul_right 1 h)

abbrev less_half : ℕ → Float
less_half n = sub binary64 (fl n) half

half_le_one : T (le half (fl 1))
unfolding le of_bits of_int
half_le_one = tt

one_less : less_half 1 ≡ half
unfolding sub of_bits of_int
one_less = refl

most_pos : T (positive (less_half 9007199254740992))
unfolding sub of_bits of_int
most_pos = tt

half_le : (n : ℕ) → 0 < n → n ≤ 2 ^ 53 → T (le half (fl n))
half_le n h k = le_trans_positive half (fl 1) (fl n) half_pos (fl_pos 1 (zero-lt-suc 0) (lit≤ tt)) (fl_pos n h k) half_le_one (fl_mono 1 n h)

less_half_mono : (a b : ℕ) → 0 < a → a ≤ b → b ≤ 2 ^ 53 → T (le (less_half a) (less_half b))
less_half_mono a b z h k =
    sub_mono binary64 (fl a) (fl b) half (fl_pos a z (le_trans h k)) (fl_pos b (lt_of_lt_of_le z h) k) half_pos (fl_mono a b h) (half_le a z (le_trans h k))

less_half_pos : (n : ℕ) → 0 < n → n ≤ 2 ^ 53 → T (positive (less_half n))
less_half_pos n h k =
    between half (less_half n) (less_half 9007199254740992) half_pos most_pos (subst (λ (x : Float). T (le x (less_half n))) one_less (less_half_mono 1 n (zero-lt-suc 0) h k))
    (less_half_mono n 9007199254740992 h k (le_refl 9007199254740992))

-- ---- the order goes through to any v
below_inf : (x : Float) → T (positive x) → T (le x (inf false))
unfolding le
below_inf nan p = absurd p
below_inf (inf s) p = absurd p
below_inf (fin true m e) p = absurd p
below_inf (fin false m e) p = tt

onward : (x y v : Float) → T (positive x) → T (positive y) → T (le x y) → T (le y v) → T (above v) → T (le x v)
onward x y nan p q h k a = absurd a
onward x y (inf true) p q h k a = absurd a
onward x y (inf false) p q h k a = below_inf x p
onward x y (fin true m e) p q h k a = absurd a
onward x y (fin false m e) p q h k a = le_trans_positive x y (fin false m e) p q a h k

pub reaches_down : (v : Float) (a b : ℕ) → 0 < a → a ≤ b → b ≤ 2 ^ 53 → T (reaches v b) → T (reaches v a)
unfolding reaches
reaches_down v a b z h k t =
    let q = less_half_pos b (lt_of_lt_of_le z h) k in
    onward (less_half a) (less_half b) v (less_half_pos a z (le_trans h k)) q (less_half_mono a b z h k) t (above_of_le (less_half b) v q t)

-- ---- the greatest
seek_top : (v : Float) (n : ℕ) → reaches v (suc n) ≡ true → greatest v (suc n) ≡ suc n
unfolding greatest seek
seek_top v n e = ap (λ (b : Bool). seek v (suc n) b) e

seek_on : (v : Float) (n : ℕ) → reaches v (suc n) ≡ false → greatest v (suc n) ≡ greatest v n
unfolding greatest seek
seek_on v n e = ap (λ (b : Bool). seek v (suc n) b) e

pub is_greatest : (v : Float) (max r : ℕ) → IsGreatest v max r → greatest v max ≡ r
unfolding greatest seek
is_greatest v zero r g = omega (arith, g.within)
is_greatest v (suc n) r g =
    elim (eq-or-lt_of_le g.within) [
      | inl e ↦ elim g.met [ inl z ↦ absurd (suc-ne-zero n (sym e ∙ z)) | inr t ↦ seek_top v n (subst (λ (k : ℕ). reaches v k ≡ true) e t) ∙ sym e ]
      | inr l ↦
          seek_on v n (g.last (suc n) l (le_refl (suc n)))
          ∙ is_greatest v n r (record { within = le_of_suc-le-suc l; met = g.met; last = λ k a b. g.last k a (le_step b) })
    ]

-- it is that number, for every v and max
pub greatest_is : (v : Float) (max : ℕ) → IsGreatest v max (greatest v max)
unfolding greatest seek
greatest_is v zero = record { within = zero-le; met = inl refl; last = λ n a b. absurd (omega arith) }
greatest_is v (suc n) = go (reaches v (suc n)) refl (greatest_is v n)
  where
    go : (b : Bool) → reaches v (suc n) ≡ b → IsGreatest v n (greatest v n) → IsGreatest v (suc n) (seek v (suc n) b)
    go true e g = record { within = le_refl (suc n); met = inr e; last = λ k a b. absurd (omega arith) }
    go false e g = record { within = le_step g.within; met = g.met; last = λ k a b. upto k a (eq-or-lt_of_le b) }
      where
        upto : (k : ℕ) → greatest v n < k → (k ≡ suc n) ⊎ (k < suc n) → reaches v k ≡ false
        upto k a (inl z) = subst (λ (j : ℕ). reaches v j ≡ false) (sym z) e
        upto k a (inr l) = g.last k a (le_of_suc-le-suc l)

pub greatest_within : (v : Float) (max : ℕ) → greatest v max ≤ max
greatest_within v max = (greatest_is v max).within

-- a NaN reaches nothing
le_nan : (x : Float) → le x nan ≡ false
unfolding le
le_nan nan = refl
le_nan (inf s) = refl
le_nan (fin s m e) = refl

pub nan_reaches : (n : ℕ) → reaches nan n ≡ false
unfolding reaches
nan_reaches n = le_nan (less_half n)

-- v does not reach m, so it reaches no n from m up
pub misses : (v : Float) (m n max : ℕ) → 0 < m → m ≤ n → n ≤ max → max ≤ 2 ^ 53 → reaches v m ≡ false → reaches v n ≡ false
misses v m n max z h k l e = is_false (reaches v n) (not_T (reaches v n) (λ t. subst T e (reaches_down v m n z h (le_trans k l) t)))

-- a whole number up to 2 ^ 53 goes into an f64
pub fits_float : (n : ℕ) → n ≤ 2 ^ 53 → T (in_float binary64 (pos n))
unfolding in_float
fits_float n h = le→leb n (2 ^ 53) h
