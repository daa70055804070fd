-- Differences of coordinates, by computation for the numbers below 64, and the Manhattan distances that are made of them. Assumes nothing.
use mathlib.Core.Path.{◌≡◌, refl, sym, ap, ◌∙◌, subst}
use mathlib.Core.Bool.{true, false}
use Prim.Native.Nat.{ℕ, ◌+◌, ◌<◌}
use lib.Dec.{T, eqb, eqb→eq}
use lib.Ieee.{Float, binary64, of_bits, to_bits, of_int, add, sub, neg, lt}
use lib.Ieee.Bits.{of_bits-to_bits}
use lib.Ieee.Fits.{sub-fits}
use Rattle.columns.specs.Questions.{every}
use Rattle.columns.specs.Places.{zero_float, position, half, one}
use Rattle.columns.proofs.Tests.{every-at}
use Rattle.codes_writers.specs.Edges.{float}
use Rattle.weights_diagonal.specs.Diagonal.{absolute, manhattan_distance, is_diagonal}

-- -1
abbrev minus_one : Float
minus_one = of_bits binary64 0xbff0000000000000

-- a difference by its bits
by_bits : (x y : Float) (bits : ℕ) → eqb (to_bits binary64 (sub binary64 x y)) bits ≡ true → sub binary64 x y ≡ of_bits binary64 bits
by_bits x y bits e = sym (of_bits-to_bits binary64 (sub binary64 x y) (sub-fits binary64 x y)) ∙ ap (of_bits binary64) (eqb→eq (to_bits binary64 (sub binary64 x y)) bits (subst T (sym e) tt))

same_table : every 64 (λ n. eqb (to_bits binary64 (sub binary64 (float n) (float n))) 0) ≡ true
unfolding every sub of_int to_bits
same_table = refl

next-table : every 64 (λ n. eqb (to_bits binary64 (sub binary64 (float n) (float (n + 1)))) 0xbff0000000000000) ≡ true
unfolding every sub of_int to_bits
next-table = refl

-- where place n is across
abbrev across : ℕ → Float
across n = add binary64 (float n) half

same_across_table : every 64 (λ n. eqb (to_bits binary64 (sub binary64 (across n) (across n))) 0) ≡ true
unfolding every sub add of_int to_bits of_bits
same_across_table = refl

next_across_table : every 64 (λ n. eqb (to_bits binary64 (sub binary64 (across n) (across (n + 1)))) 0xbff0000000000000) ≡ true
unfolding every sub add of_int to_bits of_bits
next_across_table = refl

same : (n : ℕ) → n < 64 → sub binary64 (float n) (float n) ≡ zero_float
same n h = by_bits (float n) (float n) 0 (every-at (λ k. eqb (to_bits binary64 (sub binary64 (float k) (float k))) 0) 64 same_table n h)

next : (n : ℕ) → n < 64 → sub binary64 (float n) (float (n + 1)) ≡ minus_one
next n h = by_bits (float n) (float (n + 1)) 0xbff0000000000000 (every-at (λ k. eqb (to_bits binary64 (sub binary64 (float k) (float (k + 1)))) 0xbff0000000000000) 64 next-table n h)

same_across : (n : ℕ) → n < 64 → sub binary64 (across n) (across n) ≡ zero_float
same_across n h = by_bits (across n) (across n) 0 (every-at (λ k. eqb (to_bits binary64 (sub binary64 (across k) (across k))) 0) 64 same_across_table n h)

next_across : (n : ℕ) → n < 64 → sub binary64 (across n) (across (n + 1)) ≡ minus_one
next_across n h = by_bits (across n) (across (n + 1)) 0xbff0000000000000 (every-at (λ k. eqb (to_bits binary64 (sub binary64 (across k) (across (k + 1)))) 0xbff0000000000000) 64 next_across_table n h)

-- from the first place to the left one
left_across : sub binary64 (across 0) (add binary64 (neg one) half) ≡ of_bits binary64 0x3ff0000000000000
unfolding sub add neg of_int of_bits
left_across = refl

-- ---- whether an edge is diagonal, by its differences

by_differences : (i i' j j' t t' x y z : Float) → sub binary64 i i' ≡ x → sub binary64 j j' ≡ y → sub binary64 t t' ≡ z
    → is_diagonal (position i j t) (position i' j' t') ≡ lt one (add binary64 (add binary64 (absolute x) (absolute y)) (absolute z))
unfolding manhattan_distance
by_differences i i' j j' t t' x y z p q r = λ k. lt one (add binary64 (add binary64 (absolute (p k)) (absolute (q k))) (absolute (r k)))

-- 1 is not above 1, and 2 is
abbrev plus_one : Float
plus_one = of_bits binary64 0x3ff0000000000000

distance : Float → Float → Float → Float
distance x y z = add binary64 (add binary64 (absolute x) (absolute y)) (absolute z)

sums : (lt one (distance zero_float minus_one zero_float) ≡ false) × (lt one (distance zero_float plus_one zero_float) ≡ false)
    × (lt one (distance minus_one zero_float zero_float) ≡ false) × (lt one (distance zero_float minus_one minus_one) ≡ true)
unfolding distance absolute lt add of_bits
sums = (refl, refl, refl, refl)

-- along a row, from the first place to the left one, and to the next row: not diagonal
pub along : (row i t : ℕ) → row < 64 → i < 64 → t < 64 → is_diagonal (position (float row) (across i) (float t)) (position (float row) (across (i + 1)) (float t)) ≡ false
unfolding distance
along row i t a b c = by_differences (float row) (float row) (across i) (across (i + 1)) (float t) (float t) zero_float minus_one zero_float (same row a) (next_across i b) (same t c) ∙ sums.0

pub to_left : (row t : ℕ) → row < 64 → t < 64 → is_diagonal (position (float row) (across 0) (float t)) (position (float row) (add binary64 (neg one) half) (float t)) ≡ false
unfolding distance
to_left row t a c = by_differences (float row) (float row) (across 0) (add binary64 (neg one) half) (float t) (float t) zero_float plus_one zero_float (same row a) left_across (same t c) ∙ sums.1

pub to_next_row : (row i t : ℕ) → row < 64 → i < 64 → t < 64 → is_diagonal (position (float row) (across i) (float t)) (position (float (row + 1)) (across i) (float t)) ≡ false
unfolding distance
to_next_row row i t a b c = by_differences (float row) (float (row + 1)) (across i) (across i) (float t) (float t) minus_one zero_float zero_float (next row a) (same_across i b) (same t c) ∙ sums.2

-- to the next place of the next layer: diagonal
pub to_next_layer : (row i t : ℕ) → row < 64 → i < 64 → t < 64 → is_diagonal (position (float row) (across i) (float t)) (position (float row) (across (i + 1)) (float (t + 1))) ≡ true
unfolding distance
to_next_layer row i t a b c = by_differences (float row) (float row) (across i) (across (i + 1)) (float t) (float (t + 1)) zero_float minus_one minus_one (same row a) (next_across i b) (next t c) ∙ sums.3
