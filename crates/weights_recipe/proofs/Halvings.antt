-- For each p from 2 to the power -40 to 0.5 the odds come below 2 after at most 40 halvings: the bound of 64 in the definition never stops it. And the
-- definition in the text's own words: k is the first number such that the odds halved k times are below 2. Assumes nothing.
use Rattle.std.proofs.Common.{◌≡◌, ℕ, zero, suc, ◌+◌, ◌*◌, ◌^◌, ◌<◌, ◌≤◌, Bool, true, false, cond, not, ◌&&◌, ◌||◌, T, eqb, ltb, sym, refl, ap, ◌∙◌, subst, le_of_suc-le-suc, not-suc-le-zero, zero-lt-suc, mul_assoc, mul_comm, mul-le-mul, mul-pos, pow-suc, ne_of_gt, zero-mul, mul-one, mul_left_comm, arith, lit≤, ltb→lt, lt→ltb, nltb→le, pow_pos, pow_mono, ne_eqb}
use lib.Dec.{eqb-suc-zero}
use lib.Ieee.{Float, nan, inf, fin, Format, binary64, up, down, round, sub, mul, div, lt, le, eq, of_bits}
use lib.Ieee.Bits.{is_true, cond_no}
use lib.Ieee.Fits.{and_l, and_r, up_pos}
use lib.Ieee.Exact.{HasValue}
use lib.Ieee.Back.{round_whole}
use lib.Ieee.Order.{round_mono}
use lib.Ieee.Scale.{round_same}
use lib.Ieee.Positive.{num, den, den_pos, positive, positive_of_value, le→cross, cross→le, le_trans_positive, between, mul_at, mul_mono, sub_anti}
use Rattle.columns.specs.Places.{zero_float, one, half}
use Rattle.weights_recipe.specs.Constants.{two, least_p}
use Rattle.weights_recipe.specs.Probabilities.{is_in_range}
use Rattle.weights_recipe.specs.Logarithm.{Halved, halve, halved_times, odds, logarithm, edge_weight, ByRecipe}
use Rattle.weights_recipe.proofs.Floats.{half_is, half_pos, one_pos, two_pos, least_pos}
use Rattle.weights_recipe.proofs.Recipe.{from, ended, past_zero}

-- ---- 2 ^ j as a float
abbrev pw : ℕ → Float
pw j = round binary64 false (2 ^ j) 1

pw_val : (j : ℕ) → j ≤ 53 → HasValue (pw j) false (2 ^ j) 1
pw_val j h = round_whole binary64 false (2 ^ j) (pow_mono h)

pw_pos : (j : ℕ) → j ≤ 53 → T (positive (pw j))
pw_pos j h = positive_of_value (pw j) (2 ^ j) 1 (pw_val j h) (pow_pos j)

num_pos : (x : Float) → T (positive x) → 0 < num x
num_pos nan p = absurd p
num_pos (inf s) p = absurd p
num_pos (fin true m e) p = absurd p
num_pos (fin false m e) p = mul-pos (ltb→lt 0 m p) (up_pos e)

half_self : T (le half half)
unfolding le of_bits
half_self = tt

halved_pw : (j : ℕ) → suc j ≤ 53 → mul binary64 (pw (suc j)) half ≡ pw j
halved_pw j h =
    mul_at binary64 (pw (suc j)) half (2 ^ suc j) 1 1 2 (pw_pos (suc j) h) half_pos (zero-lt-suc 0) (zero-lt-suc 1) (pw_val (suc j) h) half_is
    ∙ round_same binary64 false (2 ^ suc j * 1) (1 * 2) (2 ^ j) 1 (zero-lt-suc 1) (zero-lt-suc 0) (mul-one (2 ^ suc j * 1) ∙ mul-one (2 ^ suc j) ∙ pow-suc 2 j)

pw_zero : pw 0 ≡ one
unfolding round of_bits
pw_zero = refl

halved_two : mul binary64 two half ≡ one
unfolding mul of_bits
halved_two = refl

-- ---- order with 1 and 2
lt_is : (x y : Float) → T (positive x) → T (positive y) → lt x y ≡ ltb (num x * den y) (num y * den x)
unfolding lt
lt_is nan y p q = absurd p
lt_is (inf s) y p q = absurd p
lt_is (fin true m e) y p q = absurd p
lt_is (fin false m e) nan p q = absurd q
lt_is (fin false m e) (inf t) p q = absurd q
lt_is (fin false m e) (fin true n d) p q = absurd q
lt_is (fin false m e) (fin false n d) p q = refl

not_below : (x y : Float) → T (positive x) → T (positive y) → lt x y ≡ false → T (le y x)
not_below x y p q e = cross→le y x q p (nltb→le (num x * den y) (num y * den x) (subst (λ (b : Bool). T (not b)) (sym (sym (lt_is x y p q) ∙ e)) tt))

below_two : (q : Float) → T (positive q) → T (le q one) → lt q two ≡ true
unfolding of_bits
below_two q p h =
    lt_is q two p two_pos
    ∙ is_true (ltb (num q * den two) (num two * den q))
    (lt→ltb (num q * den two) (num two * den q) (go (num q) (den q) (den_pos q) (le→cross q one p one_pos h)))
  where
    go : (n d : ℕ) → 0 < d → n * 1 ≤ 1 * d → n * 1 < 2 * d
    go n d z k = omega arith

-- ---- the halvings
true_or_false : (b : Bool) (P : Type 0) → (b ≡ true → P) → (b ≡ false → P) → P
true_or_false true P f g = f refl
true_or_false false P f g = g refl

pub record Ended (m : Halved) (k : ℕ) : Type 0 where
  pub below : lt m.m two ≡ true
  pub turns : m.k ≤ k

stop : (fuel : ℕ) (q : Float) (k n : ℕ) → lt q two ≡ true → k ≤ n → Ended (halve fuel true q k) n
unfolding halve
stop zero q k n e h = record { below = e; turns = h }
stop (suc f) q k n e h = record { below = e; turns = h }

ends : (fuel j : ℕ) (q : Float) (k : ℕ) → j ≤ fuel → j ≤ 53 → T (positive q) → T (le q (pw j)) → Ended (halve fuel (lt q two) q k) (k + j)
unfolding halve
ends fuel zero q k f h p l =
    let e : lt q two ≡ true = below_two q p (subst (λ (x : Float). T (le q x)) pw_zero l) in
    subst (λ (b : Bool). Ended (halve fuel b q k) (k + 0)) (sym e) (stop fuel q k (k + 0) e (omega arith))
ends zero (suc j) q k f h p l = absurd (not-suc-le-zero f)
ends (suc fuel) (suc j) q k f h p l =
    true_or_false (lt q two) (Ended (halve (suc fuel) (lt q two) q k) (k + suc j))
    (λ e. subst (λ (b : Bool). Ended (halve (suc fuel) b q k) (k + suc j)) (sym e) (stop (suc fuel) q k (k + suc j) e (omega arith)))
    (λ e.
    let j-le : j ≤ 53 = omega arith in
    let up_to : T (le (mul binary64 q half) (pw j)) = subst (λ (x : Float). T (le (mul binary64 q half) x)) (halved_pw j h) (mul_mono binary64 q (pw (suc j)) half half p (pw_pos (suc j) h) half_pos half_pos l half_self) in
    let from : T (le one (mul binary64 q half)) = subst (λ (x : Float). T (le x (mul binary64 q half))) halved_two (mul_mono binary64 two q half half two_pos p half_pos half_pos (not_below q two p two_pos e) half_self) in
    let q-pos : T (positive (mul binary64 q half)) = between one (mul binary64 q half) (pw j) one_pos (pw_pos j j-le) from up_to in
    subst (λ (b : Bool). Ended (halve (suc fuel) b q k) (k + suc j)) (sym e)
    (subst (λ (n : ℕ). Ended (halve fuel (lt (mul binary64 q half) two) (mul binary64 q half) (k + 1)) n) (next k j)
    (ends fuel j (mul binary64 q half) (k + 1) (le_of_suc-le-suc f) j-le q-pos up_to)))
  where
    next : (a b : ℕ) → a + 1 + b ≡ a + suc b
    next a b = omega arith

-- ---- the odds of p
div_is : (f : Format) (x y : Float) → T (positive x) → T (positive y) → div f x y ≡ round f false (num x * den y) (num y * den x)
unfolding div
div_is f nan y p q = absurd p
div_is f (inf s) y p q = absurd p
div_is f (fin true m e) y p q = absurd p
div_is f (fin false m e) nan p q = absurd q
div_is f (fin false m e) (inf t) p q = absurd q
div_is f (fin false m e) (fin true n d) p q = absurd q
div_is f (fin false m e) (fin false n d) p q = cond_no (eqb n 0) (cond (eqb m 0) nan (inf false)) (round f false (m * up e * down d) (n * up d * down e)) (some n q)
  where
    some : (n : ℕ) → T (ltb 0 n) → T (not (eqb n 0))
    some zero t = absurd t
    some (suc n) t = subst (λ (b : Bool). T (not b)) (sym (eqb-suc-zero n)) tt

-- a quotient is at most that of a larger number by a smaller one, and at least that of a smaller by a larger
pub div_mono : (f : Format) (x x' y y' : Float) → T (positive x) → T (positive x') → T (positive y) → T (positive y') → T (le x x') → T (le y' y) → T (le (div f x y) (div f x' y'))
div_mono f x x' y y' p p' q q' h k =
    subst (λ (z : Float). T (le z (div f x' y'))) (sym (div_is f x y p q))
    (subst (λ (z : Float). T (le (round f false (num x * den y) (num y * den x)) z)) (sym (div_is f x' y' p' q'))
    (round_mono f (num x * den y) (num y * den x) (num x' * den y') (num y' * den x') (mul-pos (num_pos y q) (den_pos x)) (mul-pos (num_pos y' q') (den_pos x'))
    (cross (num x) (den x) (num x') (den x') (num y) (den y) (num y') (den y') (le→cross x x' p p' h) (le→cross y' y q' q k))))
  where
    cross : (a b a' b' c d c' d' : ℕ) → a * b' ≤ a' * b → c' * d ≤ c * d' → a * d * (c' * b') ≤ a' * d' * (c * b)
    cross a b a' b' c d c' d' u v = simp (mul_assoc, mul_comm, mul_left_comm) (simp (mul_assoc, mul_comm) at (mul-le-mul u v))

from_half : sub binary64 one half ≡ half
unfolding sub of_bits
from_half = refl

-- 1 - 2 ^ -40
abbrev nearly : Float
nearly = of_bits binary64 0x3fef_ffff_ffff_e000

from_least : sub binary64 one least_p ≡ nearly
unfolding sub of_bits
from_least = refl

nearly_pos : T (positive nearly)
unfolding of_bits
nearly_pos = tt

half_le_one : T (le half one)
unfolding le of_bits
half_le_one = tt

least : div binary64 half half ≡ one
unfolding div of_bits
least = refl

most : T (le (div binary64 nearly least_p) (pw 40))
unfolding le div of_bits round
most = tt

most_pos : T (positive (div binary64 nearly least_p))
unfolding div of_bits
most_pos = tt

pub record Odds (p : Float) : Type 0 where
  pub sure : T (positive (odds p))
  pub low : T (le one (odds p))
  pub high : T (le (odds p) (pw 40))

pub odds_in : (p : Float) → T (is_in_range p) → Odds p
odds_in p t =
    let lo : T (le least_p p) = and_l (le least_p p) (le p half) t in
    let hi : T (le p half) = and_r (le least_p p) (le p half) t in
    let p-pos : T (positive p) = between least_p p half least_pos half_pos lo hi in
    let p-one : T (le p one) = le_trans_positive p half one p-pos half_pos one_pos hi half_le_one in
    let x = sub binary64 one p in
    let x-lo : T (le half x) = subst (λ (z : Float). T (le z x)) from_half (sub_anti binary64 one p half one_pos p-pos half_pos hi half_le_one) in
    let x-hi : T (le x nearly) = subst (λ (z : Float). T (le x z)) from_least (sub_anti binary64 one least_p p one_pos least_pos p-pos lo p-one) in
    let x_pos : T (positive x) = between half x nearly half_pos nearly_pos x-lo x-hi in
    let low : T (le one (odds p)) = subst (λ (z : Float). T (le z (odds p))) least (div_mono binary64 half x half p half_pos x_pos half_pos p-pos x-lo hi) in
    let high : T (le (odds p) (div binary64 nearly least_p)) = div_mono binary64 x nearly p least_p x_pos nearly_pos p-pos least_pos x-hi lo in
    let sure : T (positive (odds p)) = between one (odds p) (div binary64 nearly least_p) one_pos most_pos low high in
    record { sure = sure; low = low; high = le_trans_positive (odds p) (div binary64 nearly least_p) (pw 40) sure most_pos (pw_pos 40 (lit≤ tt)) high most }

-- The bound of 64 turns is never met: what is left is below 2, after at most 40 halvings.
pub enough : (p : Float) → T (is_in_range p) → Ended (halve 64 (lt (odds p) two) (odds p) 0) 40
enough p t = let o = odds_in p t in ends 64 40 (odds p) 0 (lit≤ tt) (lit≤ tt) o.sure o.high

-- and p is not 0
pos_not_zero : (p : Float) → T (positive p) → eq p zero_float ≡ false
unfolding eq of_bits
pos_not_zero nan t = absurd t
pos_not_zero (inf s) t = absurd t
pos_not_zero (fin true m e) t = absurd t
pos_not_zero (fin false m e) t = go (m * up e * 1) (0 * down e) (subst (λ (x : ℕ). 0 < x) (sym (mul-one (m * up e))) (mul-pos (ltb→lt 0 m t) (up_pos e))) (zero-mul (down e))
  where
    go : (a z : ℕ) → 0 < a → z ≡ 0 → eqb a z && (true || eqb a 0) ≡ false
    go a z h k = ap (λ (b : Bool). b && true) (ne_eqb a z (λ x. ne_of_gt h (x ∙ k)))

pub range_not_zero : (p : Float) → T (is_in_range p) → eq p zero_float ≡ false
range_not_zero p t = pos_not_zero p (between least_p p half least_pos half_pos (and_l (le least_p p) (le p half) t) (and_r (le least_p p) (le p half) t))

-- what `halve` gives is the first place, where it comes below 2
module _ where
  pub record Place (q : Float) (k : ℕ) (m : Halved) : Type 0 where
    pub count : ℕ
    pub times : m.k ≡ k + count
    pub rest : m.m ≡ halved_times count q
    pub before : (j : ℕ) → j < count → lt (halved_times j q) two ≡ false

  none : (j : ℕ) {P : Type 0} → j < 0 → P
  none j h = absurd (not-suc-le-zero h)

  place : (fuel : ℕ) (b : Bool) (q : Float) (k : ℕ) → lt q two ≡ b → Place q k (halve fuel b q k)
  unfolding halve halved_times
  place zero b q k e = record { count = 0; times = omega arith; rest = refl; before = λ j h. none j h }
  place (suc f) true q k e = record { count = 0; times = omega arith; rest = refl; before = λ j h. none j h }
  place (suc f) false q k e =
      let r = place f (lt (mul binary64 q half) two) (mul binary64 q half) (k + 1) refl in
      record { count = suc r.count; times = r.times ∙ next k r.count; rest = r.rest; before = λ j h. at_each j h r.before }
    where
      next : (a b : ℕ) → a + 1 + b ≡ a + suc b
      next a b = omega arith

      at_each : {n : ℕ} (j : ℕ) → j < suc n → ((i : ℕ) → i < n → lt (halved_times i (mul binary64 q half)) two ≡ false) → lt (halved_times j q) two ≡ false
      at_each zero h g = e
      at_each (suc j) h g = g j (le_of_suc-le-suc h)

-- the weight of p in the text's words
pub by_recipe : (p : Float) → T (is_in_range p) → ByRecipe p (edge_weight p)
by_recipe p t =
    let m = halve 64 (lt (odds p) two) (odds p) 0 in
    let e : Ended m 40 = enough p t in
    let r : Place (odds p) 0 m = place 64 (lt (odds p) two) (odds p) 0 refl in
    let c : m.k ≡ r.count = r.times ∙ plus r.count in
    record {
      k = r.count;
      few = subst (λ (n : ℕ). n ≤ 40) c e.turns;
      until = record { below = subst (λ (x : Float). lt x two ≡ true) r.rest e.below; before = r.before };
      result = sym (past_zero p m (range_not_zero p t) refl) ∙ same m r.count (halved_times r.count (odds p)) c r.rest;
    }
  where
    plus : (n : ℕ) → 0 + n ≡ n
    plus n = omega arith

    same : (m : Halved) (k : ℕ) (q : Float) → m.k ≡ k → m.m ≡ q → logarithm m ≡ logarithm (ended k q)
    same m k q a b = λ i. logarithm (ended (a i) (b i))
