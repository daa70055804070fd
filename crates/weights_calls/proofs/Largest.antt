-- The largest weight: one weight more, that it is above 0 exactly where some weight is, and that it is the largest. Assumes nothing.
use mathlib.Core.Path.{◌≡◌, refl, sym, ap, ◌∙◌, subst}
use mathlib.Core.Logic.{◌⊎◌, inl, inr}
use mathlib.Core.List.{List, [], ◌∷◌, ◌++◌}
use mathlib.Core.Bool.{Bool, true, false, not, ◌||◌, cond, false≢true}
use Prim.Native.Nat.{ℕ, zero, suc, ◌*◌, ◌<◌, zero-le}
use native.Mathlib.Nat.{le_refl, le_of_lt, lt_of_le_of_lt, mul-one, zero-mul}
use native.Mathlib.Omega.{arith}
use lib.Dec.{T, ltb, ltb→lt, lt→ltb}
use lib.Ieee.{Float, nan, inf, fin, up, down, lt, of_bits}
use lib.Ieee.Bits.{is_true}
use lib.Ieee.Fits.{down_pos}
use lib.Ieee.Positive.{first_pos, through}
use lib.ListN.{length, get_or}
use borrow.Author.Tests.{le-ltb, ltb-true, ltb-false}
use Rattle.columns.specs.Places.{zero_float}
use Rattle.weights_calls.specs.Calls.{larger, largest, some_above}

pub largest_more : (m : Float) (ws : List Float) (w : Float) → largest m (ws ++ (w ∷ [])) ≡ larger (largest m ws) w
unfolding largest
largest_more m [] w = refl
largest_more m (v ∷ ws) w = largest_more (larger m v) ws w

-- 0 < m and m < w give 0 < w
finite : (a b u : ℕ) (x y : ℕ) → 0 < u → ltb a (b * u) ≡ true → ltb (0 * x) (b * 1) ≡ true
finite a b u x y U k =
    let p : 0 < b * 1 = rw mul-one (first_pos b u (lt_of_le_of_lt zero-le (ltb→lt a (b * u) (subst T (sym k) tt)))) in
    is_true (ltb (0 * x) (b * 1)) (lt→ltb (0 * x) (b * 1) (rw zero-mul p))

onward : (m w : Float) → lt zero_float m ≡ true → lt m w ≡ true → lt zero_float w ≡ true
unfolding lt of_bits
onward nan w h k = absurd (false≢true h)
onward (inf true) w h k = absurd (false≢true h)
onward (inf false) nan h k = absurd (false≢true k)
onward (inf false) (inf t) h k = absurd (false≢true k)
onward (inf false) (fin t n d) h k = absurd (false≢true k)
onward (fin true m e) w h k = absurd (false≢true h)
onward (fin false m e) nan h k = absurd (false≢true k)
onward (fin false m e) (inf t) h k = k
onward (fin false m e) (fin true n d) h k = absurd (false≢true k)
onward (fin false m e) (fin false n d) h k = finite (m * up e * down d) (n * up d) (down e) (down d) 0 (down_pos e) k

either : (c a b : Bool) → b ≡ true → a || (b || c) ≡ b || c
either c true true e = refl
either c true false e = absurd (false≢true e)
either c false b e = refl

first : (c a b : Bool) → a ≡ true → a || c ≡ a || (b || c)
first c true b e = refl
first c false b e = absurd (false≢true e)

-- m is 0 or above it
goes : (m : Float) (ws : List Float) → (m ≡ zero_float) ⊎ (lt zero_float m ≡ true) → lt zero_float (largest m ws) ≡ lt zero_float m || some_above ws
unfolding largest some_above
goes m [] h = or_false (lt zero_float m)
  where
    or_false : (b : Bool) → b ≡ b || false
    or_false true = refl
    or_false false = refl
goes m (w ∷ ws) h = pick (lt m w) refl (goes w ws) (goes m ws h) h
  where
    pick : (b : Bool) → lt m w ≡ b → ((w ≡ zero_float) ⊎ (lt zero_float w ≡ true) → lt zero_float (largest w ws) ≡ lt zero_float w || some_above ws)
        → lt zero_float (largest m ws) ≡ lt zero_float m || some_above ws → (m ≡ zero_float) ⊎ (lt zero_float m ≡ true)
        → lt zero_float (largest (cond b w m) ws) ≡ lt zero_float m || (lt zero_float w || some_above ws)
    pick true e f g (inl z) = let t : lt zero_float w ≡ true = subst (λ (x : Float). lt x w ≡ true) z e in f (inr t) ∙ sym (either (some_above ws) (lt zero_float m) (lt zero_float w) t)
    pick true e f g (inr p) = let t : lt zero_float w ≡ true = onward m w p e in f (inr t) ∙ sym (either (some_above ws) (lt zero_float m) (lt zero_float w) t)
    pick false e f g (inl z) = g ∙ ap (λ (b : Bool). lt zero_float m || (b || some_above ws)) (sym (subst (λ (x : Float). lt x w ≡ false) z e))
    pick false e f g (inr p) = g ∙ first (some_above ws) (lt zero_float m) (lt zero_float w) p

zero_not_above : lt zero_float zero_float ≡ false
unfolding lt of_bits
zero_not_above = refl

pub some_above_lem : (ws : List Float) → lt zero_float (largest zero_float ws) ≡ some_above ws
some_above_lem ws = goes zero_float ws (inl refl) ∙ ap (λ (b : Bool). b || some_above ws) zero_not_above

-- ---- it is the largest: no weight is above it, and it is 0 or one of the weights

-- not negative, and no NaN
abbrev pub unsigned : Float → Bool
unsigned nan = false
unsigned (inf s) = not s
unsigned (fin s m e) = not s

-- what is above a number that is not negative is not negative
above_unsigned : (m w : Float) → T (unsigned m) → lt m w ≡ true → T (unsigned w)
unfolding lt
above_unsigned nan w t e = absurd t
above_unsigned (inf true) w t e = absurd t
above_unsigned (inf false) nan t e = absurd (false≢true e)
above_unsigned (inf false) (inf s) t e = absurd (false≢true e)
above_unsigned (inf false) (fin s n d) t e = absurd (false≢true e)
above_unsigned (fin true k c) w t e = absurd t
above_unsigned (fin false k c) nan t e = absurd (false≢true e)
above_unsigned (fin false k c) (inf true) t e = absurd (false≢true e)
above_unsigned (fin false k c) (inf false) t e = tt
above_unsigned (fin false k c) (fin true n d) t e = absurd (false≢true e)
above_unsigned (fin false k c) (fin false n d) t e = tt

-- v is not above m, and w is: v is not above w
still : (m w v : Float) → T (unsigned m) → lt m w ≡ true → lt m v ≡ false → lt w v ≡ false
unfolding lt
still nan w v t e f = absurd t
still (inf true) w v t e f = absurd t
still (inf false) nan v t e f = absurd (false≢true e)
still (inf false) (inf s) v t e f = absurd (false≢true e)
still (inf false) (fin s n d) v t e f = absurd (false≢true e)
still (fin true k c) w v t e f = absurd t
still (fin false k c) nan v t e f = absurd (false≢true e)
still (fin false k c) (inf true) v t e f = absurd (false≢true e)
still (fin false k c) (inf false) nan t e f = refl
still (fin false k c) (inf false) (inf s) t e f = refl
still (fin false k c) (inf false) (fin s n d) t e f = refl
still (fin false k c) (fin true n d) v t e f = absurd (false≢true e)
still (fin false k c) (fin false n d) nan t e f = refl
still (fin false k c) (fin false n d) (inf true) t e f = refl
still (fin false k c) (fin false n d) (inf false) t e f = absurd (false≢true (sym f))
still (fin false k c) (fin false n d) (fin true l b) t e f = refl
still (fin false k c) (fin false n d) (fin false l b) t e f =
    le-ltb (n * up d * down b) (l * up b * down d)
    (through (l * up b) (k * up c) (n * up d) (down b) (down c) (down d) (down_pos c) (ltb-false (k * up c * down b) (l * up b * down c) f)
    (le_of_lt (ltb-true (k * up c * down d) (n * up d * down c) e)))

not_above_itself : (w : Float) → lt w w ≡ false
unfolding lt
not_above_itself nan = refl
not_above_itself (inf true) = refl
not_above_itself (inf false) = refl
not_above_itself (fin true m e) = le-ltb (m * up e * down e) (m * up e * down e) (le_refl _)
not_above_itself (fin false m e) = le-ltb (m * up e * down e) (m * up e * down e) (le_refl _)

module _ (m : Float) (t : T (unsigned m)) where
  pub taken : (w : Float) → T (unsigned (larger m w))
  taken w = go (lt m w) refl
    where
      go : (b : Bool) → lt m w ≡ b → T (unsigned (cond b w m))
      go true e = above_unsigned m w t e
      go false e = t

  pub kept : (w v : Float) → lt m v ≡ false → lt (larger m w) v ≡ false
  kept w v f = go (lt m w) refl
    where
      go : (b : Bool) → lt m w ≡ b → lt (cond b w m) v ≡ false
      go true e = still m w v t e f
      go false e = f

  pub at_least : (w : Float) → lt (larger m w) w ≡ false
  at_least w = go (lt m w) refl
    where
      go : (b : Bool) → lt m w ≡ b → lt (cond b w m) w ≡ false
      go true e = not_above_itself w
      go false e = e

below_start : (m : Float) (ws : List Float) → T (unsigned m) → (v : Float) → lt m v ≡ false → lt (largest m ws) v ≡ false
unfolding largest
below_start m [] t v f = f
below_start m (w ∷ ws) t v f = below_start (larger m w) ws (taken m t w) v (kept m t w v f)

none_above : (m : Float) (ws : List Float) → T (unsigned m) → (d : Float) (i : ℕ) → i < length ws → lt (largest m ws) (get_or ws i d) ≡ false
unfolding largest
none_above m [] t d i h = absurd (omega arith)
none_above m (w ∷ ws) t d zero h = below_start (larger m w) ws (taken m t w) w (at_least m t w)
none_above m (w ∷ ws) t d (suc i) h = none_above (larger m w) ws (taken m t w) d i (omega arith)

-- x stands in a list
pub record At (x : Float) (ws : List Float) : Type 0 where
  pub place : ℕ
  pub there : place < length ws
  pub is : x ≡ get_or ws place zero_float

one_of : (m : Float) (ws : List Float) → (largest m ws ≡ m) ⊎ At (largest m ws) ws
unfolding largest
one_of m [] = inl refl
one_of m (w ∷ ws) = go (lt m w) (one_of w ws) (one_of m ws)
  where
    next : (x : Float) → At x ws → At x (w ∷ ws)
    next x a = record { place = suc a.place; there = omega (arith, a.there); is = a.is }

    go : (b : Bool) → (largest w ws ≡ w) ⊎ At (largest w ws) ws → (largest m ws ≡ m) ⊎ At (largest m ws) ws
        → (largest (cond b w m) ws ≡ m) ⊎ At (largest (cond b w m) ws) (w ∷ ws)
    go true (inl e) g = inr (record { place = 0; there = omega arith; is = e })
    go true (inr a) g = inr (next (largest w ws) a)
    go false f (inl e) = inl e
    go false f (inr a) = inr (next (largest m ws) a)

pub record Largest (x : Float) (ws : List Float) : Type 0 where
  pub bound : (i : ℕ) → i < length ws → lt x (get_or ws i zero_float) ≡ false
  pub among : (x ≡ zero_float) ⊎ At x ws

pub zero_unsigned : T (unsigned zero_float)
unfolding of_bits
zero_unsigned = tt

pub is_largest : (ws : List Float) → Largest (largest zero_float ws) ws
is_largest ws = record { bound = none_above zero_float ws zero_unsigned zero_float; among = one_of zero_float ws }
