-- Laws of the defect flip. Assumes nothing.
use mathlib.Core.Path.{◌≡◌, refl, sym, ap, ◌∙◌}
use mathlib.Core.List.{List, [], ◌∷◌, ◌++◌}
use Prim.Native.Nat.{ℕ, zero, suc, ◌+◌, ◌-◌, ◌*◌, ◌≤◌, ◌<◌}
use native.Mathlib.Decide.{ℕ_discrete}
use native.Mathlib.Omega.{arith}
use native.Mathlib.Numerals.{add-one}
use lib.ListN.{length, get_or, set, take, length-set, get_or-append}
use lib.Dec.{eqb}
use lib.Seq.{take-suc, get_or-set_same, get_or-set_other, set-append_left}
use borrow.Author.Tests.{ne_eqb}
use mir.Val.{bool_byte}
use Rattle.sampling_flips.specs.Flip.{inner_bit, flipped, flip_at, flip_edge, flip_each}

-- ---- the flip as arithmetic

-- a comparison with the boundary byte of an inner vertex, as a number
pub equal_bit : (n : ℕ) → bool_byte (eqb n 0) ≡ inner_bit n
equal_bit zero = refl
equal_bit (suc n) = ap bool_byte (ne_eqb (suc n) 0 (λ e. omega arith))

pub bit_within : (n : ℕ) → inner_bit n ≤ 1
bit_within zero = omega arith
bit_within (suc n) = omega arith

-- a bit times a byte is a byte, and so is the byte that a bit chooses of two, as a sum of products
pub times_fits : (i x : ℕ) → i ≤ 1 → x < 256 → i * x < 256
times_fits zero x h g = omega arith
times_fits (suc zero) x h g = omega arith
times_fits (suc (suc i)) x h g = absurd (omega (arith, h))

pub chosen_fits : (i y x : ℕ) → i ≤ 1 → y < 256 → x < 256 → i * y + (1 - i) * x < 256
chosen_fits zero y x h g f = omega arith
chosen_fits (suc zero) y x h g f = omega arith
chosen_fits (suc (suc i)) y x h g f = absurd (omega (arith, h))

-- a vertex's boundary byte n and defect byte x, its bit i, and y, which is 1 minus x: the sum is the flipped byte
pub by_subtraction : (n x i y : ℕ) → i ≡ inner_bit n → y ≡ 1 - x → i * y + (1 - i) * x ≡ flipped n x
by_subtraction zero x i y e f = rw e (omega arith)
by_subtraction (suc n) x i y e f = rw e (omega arith)

-- ---- what a flip keeps

pub flipped-virtual : (n x : ℕ) → (n ≡ 0 → ⊥) → flipped n x ≡ x
flipped-virtual zero x f = absurd (f refl)
flipped-virtual (suc n) x f = refl

pub length-flip_at : (m : List ℕ) (v : ℕ) (d : List ℕ) → length (flip_at m v d) ≡ length d
unfolding flip_at
length-flip_at m v d = length-set d v (flipped (get_or m v 0) (get_or d v 0))

module _ (a b m : List ℕ) where
  -- ---- lengths

  pub length-flipEdge : (k : ℕ) (d : List ℕ) → length (flip_edge a b m k d) ≡ length d
  unfolding flip_edge
  length-flipEdge k d = length-flip_at m (get_or b k 0) (flip_at m (get_or a k 0) d) ∙ length-flip_at m (get_or a k 0) d

  pub length-flipEach : (ks d : List ℕ) → length (flip_each a b m ks d) ≡ length d
  unfolding flip_each
  length-flipEach [] d = refl
  length-flipEach (k ∷ ks) d = length-flipEach ks (flip_edge a b m k d) ∙ length-flipEdge k d

  -- ---- one list after another

  pub flipEach-append : (xs ys d : List ℕ) → flip_each a b m (xs ++ ys) d ≡ flip_each a b m ys (flip_each a b m xs d)
  unfolding flip_each
  flipEach-append [] ys d = refl
  flipEach-append (x ∷ xs) ys d = flipEach-append xs ys (flip_edge a b m x d)

  pub flipEach-one : (k : ℕ) (d : List ℕ) → flip_each a b m (k ∷ []) d ≡ flip_edge a b m k d
  unfolding flip_each
  flipEach-one k d = refl

  -- one listed edge more
  pub flipEach-more : (ks : List ℕ) (i : ℕ) (d₀ : List ℕ) {d d' : List ℕ} → i < length ks → d ≡ flip_each a b m (take i ks) d₀ → d' ≡ flip_edge a b m (get_or ks i 0) d
      → d' ≡ flip_each a b m (take (i + 1) ks) d₀
  flipEach-more ks i d₀ {d} {d'} h e f =
      f ∙ ap (flip_edge a b m (get_or ks i 0)) e ∙ sym (flipEach-one (get_or ks i 0) (flip_each a b m (take i ks) d₀))
      ∙ sym (flipEach-append (take i ks) (get_or ks i 0 ∷ []) d₀)
      ∙ ap (λ (l : List ℕ). flip_each a b m l d₀) (sym (take-suc ks i 0 h) ∙ ap (λ (k : ℕ). take k ks) (sym (add-one i)))

  -- ---- flips in a column's first places leave the others

  flipAt-front : (v : ℕ) (d rest : List ℕ) → v < length d → flip_at m v (d ++ rest) ≡ flip_at m v d ++ rest
  unfolding flip_at
  flipAt-front v d rest h =
      ap (λ (x : ℕ). set (d ++ rest) v (flipped (get_or m v 0) x)) (get_or-append d rest 0 v h)
      ∙ set-append_left d rest v (flipped (get_or m v 0) (get_or d v 0)) h

  flipEdge-front : (k : ℕ) (d rest : List ℕ) → get_or a k 0 < length d → get_or b k 0 < length d → flip_edge a b m k (d ++ rest) ≡ flip_edge a b m k d ++ rest
  unfolding flip_edge
  flipEdge-front k d rest h g =
      ap (flip_at m (get_or b k 0)) (flipAt-front (get_or a k 0) d rest h)
      ∙ flipAt-front (get_or b k 0) (flip_at m (get_or a k 0) d) rest (omega (arith, length-flip_at m (get_or a k 0) d))

  pub flipEach-front : (ks d rest : List ℕ) → ((i : ℕ) → i < length ks → (get_or a (get_or ks i 0) 0 < length d) × (get_or b (get_or ks i 0) 0 < length d))
      → flip_each a b m ks (d ++ rest) ≡ flip_each a b m ks d ++ rest
  unfolding flip_each
  flipEach-front [] d rest h = refl
  flipEach-front (k ∷ ks) d rest h =
      ap (flip_each a b m ks) (flipEdge-front k d rest (h 0 (omega arith)).0 (h 0 (omega arith)).1)
      ∙ flipEach-front ks (flip_edge a b m k d) rest (λ i g.
      let n = h (suc i) (omega arith) in
      (omega (arith, n.0, length-flipEdge k d), omega (arith, n.1, length-flipEdge k d)))

  -- ---- a virtual vertex keeps its byte

  module _ (u : ℕ) (is_virtual : get_or m u 0 ≡ 0 → ⊥) where
    flipAt-virtual : (v : ℕ) (d : List ℕ) → u < length d → get_or (flip_at m v d) u 0 ≡ get_or d u 0
    unfolding flip_at
    flipAt-virtual v d h = elim (ℕ_discrete u v) [
      | yes e ↦ rw (sym e) (get_or-set_same d u (flipped (get_or m u 0) (get_or d u 0)) 0 h ∙ flipped-virtual (get_or m u 0) (get_or d u 0) is_virtual)
      | no e ↦ get_or-set_other d v u (flipped (get_or m v 0) (get_or d v 0)) 0 e
    ]

    flipEdge-virtual : (k : ℕ) (d : List ℕ) → u < length d → get_or (flip_edge a b m k d) u 0 ≡ get_or d u 0
    unfolding flip_edge
    flipEdge-virtual k d h =
        flipAt-virtual (get_or b k 0) (flip_at m (get_or a k 0) d) (omega (arith, length-flip_at m (get_or a k 0) d)) ∙ flipAt-virtual (get_or a k 0) d h

    pub flipEach-virtual : (ks d : List ℕ) → u < length d → get_or (flip_each a b m ks d) u 0 ≡ get_or d u 0
    unfolding flip_each
    flipEach-virtual [] d h = refl
    flipEach-virtual (k ∷ ks) d h = flipEach-virtual ks (flip_edge a b m k d) (omega (arith, length-flipEdge k d)) ∙ flipEdge-virtual k d h
