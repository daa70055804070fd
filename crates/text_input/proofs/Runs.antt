-- Runs of digits, and the numbers they write. Assumes nothing.
use mathlib.Core.Path.{◌≡◌, refl, sym, ap, ◌∙◌}
use mathlib.Core.Bool.{Bool, true, false, ◌&&◌, ◌||◌, cond}
use mathlib.Core.List.{List, [], ◌∷◌, ◌++◌}
use Prim.Native.Nat.{ℕ, zero, suc, ◌+◌, ◌-◌, ◌*◌, ◌^◌, ◌≤◌, ◌<◌}
use native.Mathlib.Nat.{mul-le-mul_right, mul_assoc, pow-zero, pow-succ', pow-le-pow_right, mul-one, zero-lt-suc}
use native.Mathlib.Decide.{dec_le}
use native.Mathlib.Numerals.{add-one}
use native.Mathlib.Omega.{arith}
use lib.Dec.{leb}
use lib.ListN.{length, get_or, take, drop, length-take, length-drop}
use lib.Seq.{take-suc, drop-cons}
use borrow.Author.Tests.{leb-true, le-leb, lt-leb}
use Rattle.columns.specs.Questions.{all}
use Rattle.columns.proofs.Tests.{and_both, both_and}
use Rattle.text_input.specs.Line.{is_digit, is_hex_digit, digits, digit_of, hex_digit_of, number_written}

-- ---- runs of digits

pub digits_within : (t : List ℕ) → digits t ≤ length t
unfolding digits
digits_within [] = omega arith
digits_within (b ∷ bs) = go (is_digit b) (digits_within bs)
  where
    go : (d : Bool) → digits bs ≤ length bs → cond d (suc (digits bs)) 0 ≤ suc (length bs)
    go true h = omega arith
    go false h = omega arith

-- those counted are digits
pub digits_are : (t : List ℕ) (i : ℕ) → i ≤ digits t → all is_digit (take i t) ≡ true
unfolding digits all
digits_are [] zero h = refl
digits_are [] (suc i) h = absurd (omega arith)
digits_are (b ∷ bs) zero h = refl
digits_are (b ∷ bs) (suc i) h = go (is_digit b) refl h (digits_are bs i)
  where
    go : (d : Bool) → is_digit b ≡ d → suc i ≤ cond d (suc (digits bs)) 0 → (i ≤ digits bs → all is_digit (take i bs) ≡ true) → (is_digit b && all is_digit (take i bs)) ≡ true
    go true e l f = both_and e (f (omega arith))
    go false e l f = absurd (omega arith)

digits_none : (b : ℕ) (bs : List ℕ) → is_digit b ≡ false → digits (b ∷ bs) ≡ 0
unfolding digits
digits_none b bs e = ap (λ (d : Bool). cond d (suc (digits bs)) 0) e

digits-one : (b : ℕ) (bs : List ℕ) → is_digit b ≡ true → digits (b ∷ bs) ≡ suc (digits bs)
unfolding digits
digits-one b bs e = ap (λ (d : Bool). cond d (suc (digits bs)) 0) e

-- a loop over the digits from place `at` on, n of which were seen
module _ (text : List ℕ) (at n : ℕ) where
  pub seen_none : digits (drop at text) ≡ 0 + digits (drop (at + 0) text)
  seen_none = omega (arith, ap (λ (k : ℕ). digits (drop k text)) (plus_zero at))
    where
      plus_zero : (k : ℕ) → k + 0 ≡ k
      plus_zero k = omega arith

  pub seen_next : at + n < length text → is_digit (get_or text (at + n) 0) ≡ true → digits (drop at text) ≡ n + digits (drop (at + n) text) → digits (drop at text) ≡ n + 1 + digits (drop (at + (n + 1)) text)
  seen_next h e p =
      let c = ap digits (drop-cons text (at + n) 0 h) ∙ digits-one (get_or text (at + n) 0) (drop (suc (at + n)) text) e in
      omega (arith, p, c, ap (λ (k : ℕ). digits (drop k text)) (next at n))
    where
      next : (a b : ℕ) → suc (a + b) ≡ a + (b + 1)
      next a b = omega arith

  pub seen-stop : at + n < length text → is_digit (get_or text (at + n) 0) ≡ false → digits (drop at text) ≡ n + digits (drop (at + n) text) → n ≡ digits (drop at text)
  seen-stop h e p =
      let c = ap digits (drop-cons text (at + n) 0 h) ∙ digits_none (get_or text (at + n) 0) (drop (suc (at + n)) text) e in
      omega (arith, p, c)

  pub seen_end : length text ≤ at + n → digits (drop at text) ≡ n + digits (drop (at + n) text) → n ≡ digits (drop at text)
  seen_end h p = omega (arith, p, digits_within (drop (at + n) text), length-drop (at + n) text)

-- ---- the number that digits write

module _ (base : ℕ) (of : ℕ → ℕ) where
  number_append : (n : ℕ) (xs : List ℕ) (b : ℕ) → number_written base of n (xs ++ (b ∷ [])) ≡ number_written base of n xs * base + of b
  unfolding number_written
  number_append n [] b = refl
  number_append n (x ∷ xs) b = number_append (n * base + of x) xs b

  -- one digit more
  pub number_more : (t : List ℕ) (i : ℕ) → i < length t → number_written base of 0 (take (i + 1) t) ≡ number_written base of 0 (take i t) * base + of (get_or t i 0)
  number_more t i h = ap (λ (k : ℕ). number_written base of 0 (take k t)) (add-one i) ∙ ap (number_written base of 0) (take-suc t i 0 h) ∙ number_append 0 (take i t) (get_or t i 0)

  pub number-none : (t : List ℕ) → 0 ≡ number_written base of 0 (take 0 t)
  unfolding number_written
  number-none [] = refl
  number-none (x ∷ t) = refl

  -- it is below the base to the power of the digits
  small-from : (test : ℕ → Bool) → ((b : ℕ) → test b ≡ true → of b < base) → (n : ℕ) (xs : List ℕ) → all test xs ≡ true → suc (number_written base of n xs) ≤ suc n * base ^ length xs
  unfolding number_written all
  small-from test below n [] e = omega (arith, ap (λ (k : ℕ). suc n * k) (pow-zero base), mul-one (suc n))
  small-from test below n (x ∷ xs) e =
      let p = and_both (test x) (all test xs) e in
      let d : of x < base = below x p.0 in
      let f = small-from test below (n * base + of x) xs p.1 in
      let g : suc (n * base + of x) * base ^ length xs ≤ (suc n * base) * base ^ length xs = mul-le-mul_right (base ^ length xs) (omega (arith, native.Mathlib.Nat.suc-mul n base)) in
      let h : (suc n * base) * base ^ length xs ≡ suc n * base ^ suc (length xs) = mul_assoc (suc n) base (base ^ length xs) ∙ ap (λ (k : ℕ). suc n * k) (sym (pow-succ' base (length xs))) in
      omega (arith, f, g, h)

  pub small : (test : ℕ → Bool) → ((b : ℕ) → test b ≡ true → of b < base) → (xs : List ℕ) → all test xs ≡ true → number_written base of 0 xs < base ^ length xs
  small test below xs e = omega (arith, small-from test below 0 xs e, native.Mathlib.Nat.one-mul (base ^ length xs))

digit_below : (b : ℕ) → is_digit b ≡ true → digit_of b < 10
digit_below b e = let p = and_both (leb 0x30 b) (leb b 0x39) e in omega (arith, leb-true b 0x39 p.1)

hex_below : (b : ℕ) → is_hex_digit b ≡ true → hex_digit_of b < 16
hex_below b e = elim (dec_le b 0x39) [
  | yes h ↦ simp (le-leb b 0x39 h) (omega arith)
  | no h ↦ simp (lt-leb b 0x39 (omega arith)) (omega (arith, leb-true b 0x66 (and_both (leb 0x61 b) (leb b 0x66) (letter (is_digit b) (omega arith) refl e)).1))
]
  where
    letter : (d : Bool) → 0x39 < b → is_digit b ≡ d → (d || (leb 0x61 b && leb b 0x66)) ≡ true → (leb 0x61 b && leb b 0x66) ≡ true
    letter false l f g = g
    letter true l f g = absurd (let p = and_both (leb 0x30 b) (leb b 0x39) f in omega (arith, leb-true b 0x39 p.1))

-- the first i of nine digits write less than 10 to the power 9, the first i of 16 less than 2 to the power 64
pub decimal_small : (t : List ℕ) (i : ℕ) → i ≤ digits t → i ≤ 9 → number_written 10 digit_of 0 (take i t) < 1000000000
decimal_small t i h k =
    let p = small 10 digit_of is_digit digit_below (take i t) (digits_are t i h) in
    let q : 10 ^ length (take i t) ≤ 10 ^ 9 = pow-le-pow_right {n = 10} (zero-lt-suc 9) {i = length (take i t)} {j = 9} (omega (arith, length-take i t)) in
    omega (arith, p, q)

all_first : (test : ℕ → Bool) (xs : List ℕ) (n i : ℕ) → i ≤ n → all test (take n xs) ≡ true → all test (take i xs) ≡ true
unfolding all
all_first test xs n zero h e = none xs
  where
    none : (ys : List ℕ) → all test (take 0 ys) ≡ true
    none [] = refl
    none (y ∷ ys) = refl
all_first test [] n (suc i) h e = refl
all_first test (x ∷ xs) zero (suc i) h e = absurd (omega arith)
all_first test (x ∷ xs) (suc n) (suc i) h e = let p = and_both (test x) (all test (take n xs)) e in both_and p.0 (all_first test xs n i (omega arith) p.1)

pub hex_small : (t : List ℕ) (i : ℕ) → all is_hex_digit (take 16 t) ≡ true → i ≤ 16 → number_written 16 hex_digit_of 0 (take i t) < 0x10000000000000000
hex_small t i e k =
    let p = small 16 hex_digit_of is_hex_digit hex_below (take i t) (all_first is_hex_digit t 16 i k e) in
    let q : 16 ^ length (take i t) ≤ 16 ^ 16 = pow-le-pow_right {n = 16} (zero-lt-suc 15) {i = length (take i t)} {j = 16} (omega (arith, length-take i t)) in
    omega (arith, p, q)
