-- An order names each vertex exactly once: the new numbers are its inverse, and a sum over it is the sum over the vertices. Assumes nothing.
use mathlib.Core.Path.{◌≡◌, refl, sym, ap, ◌∙◌, subst}
use mathlib.Core.Logic.{⊎_elim, ◌⊎◌, inl, inr}
use mathlib.Core.Bool.{Bool, true, not, cond}
use mathlib.Core.List.{List, [], ◌∷◌}
use Prim.Native.Nat.{ℕ, zero, suc, ◌+◌, ◌≤◌, ◌<◌}
use native.Mathlib.Decide.{ℕ_discrete}
use native.Mathlib.Omega.{arith}
use lib.ListN.{length, get_or}
use lib.Dec.{eqb}
use borrow.Author.Tests.{eq-eqb, ne_eqb, eqb-false, not-true}
use Rattle.columns.specs.Questions.{every}
use Rattle.columns.proofs.Tests.{every-at, below_at}
use Rattle.reorder_orders.specs.Order.{none_twice, new_number}
use Rattle.reorder_orders.specs.Steps.{IsOrder}

-- ---- sums over the numbers below n

unfoldable pub total : ℕ → (ℕ → ℕ) → ℕ
total zero f = 0
total (suc n) f = total n f + f n

total_same : (n : ℕ) (f g : ℕ → ℕ) → ((u : ℕ) → u < n → f u ≡ g u) → total n f ≡ total n g
unfolding total
total_same zero f g h = refl
total_same (suc n) f g h = omega (arith, total_same n f g (λ u l. h u (omega arith)), h n (omega arith))

total_add : (n : ℕ) (f g : ℕ → ℕ) → total n (λ u. f u + g u) ≡ total n f + total n g
unfolding total
total_add zero f g = refl
total_add (suc n) f g = omega (arith, total_add n f g)

total_zero : (n : ℕ) (f : ℕ → ℕ) → ((u : ℕ) → u < n → f u ≡ 0) → total n f ≡ 0
unfolding total
total_zero zero f h = refl
total_zero (suc n) f h = omega (arith, total_zero n f (λ u l. h u (omega arith)), h n (omega arith))

-- fewer than n where each is at most 1 and one is 0
total_less : (n : ℕ) (f : ℕ → ℕ) (u : ℕ) → u < n → f u ≡ 0 → ((k : ℕ) → k < n → f k ≤ 1) → total n f < n
unfolding total
total_less zero f u h z l = absurd (omega arith)
total_less (suc n) f u h z l = elim (ℕ_discrete u n) [
  | yes e ↦ omega (arith, subst (λ (k : ℕ). f k ≡ 0) e z, most n (λ k b. l k (omega arith)))
  | no e ↦ omega (arith, total_less n f u (omega arith) z (λ k b. l k (omega arith)), l n (omega arith))
]
  where
    most : (n : ℕ) → ((k : ℕ) → k < n → f k ≤ 1) → total n f ≤ n
    most zero l = omega arith
    most (suc n) l = omega (arith, most n (λ k b. l k (omega arith)), l n (omega arith))

-- ---- how often, weighed by f, a list names u

abbrev at : (f : ℕ → ℕ) (u x : ℕ) → ℕ
at f u x = cond (eqb x u) (f u) 0

unfoldable named : (f : ℕ → ℕ) (l : List ℕ) (u : ℕ) → ℕ
named f [] u = 0
named f (x ∷ xs) u = at f u x + named f xs u

-- the sum of f over a list
unfoldable pub along : (f : ℕ → ℕ) → List ℕ → ℕ
along f [] = 0
along f (x ∷ xs) = f x + along f xs

at_same : (f : ℕ → ℕ) (u x : ℕ) → x ≡ u → at f u x ≡ f u
at_same f u x e = ap (λ (b : Bool). cond b (f u) 0) (eq-eqb x u e)

at_other : (f : ℕ → ℕ) (u x : ℕ) → (x ≡ u → ⊥) → at f u x ≡ 0
at_other f u x e = ap (λ (b : Bool). cond b (f u) 0) (ne_eqb x u e)

total_at : (n : ℕ) (f : ℕ → ℕ) (x : ℕ) → x < n → total n (λ u. at f u x) ≡ f x
unfolding total
total_at zero f x h = absurd (omega arith)
total_at (suc n) f x h = elim (ℕ_discrete x n) [
  | yes e ↦ omega (arith, total_zero n (λ u. at f u x) (λ u l. at_other f u x (λ q. omega arith)), at_same f n x e, ap f e)
  | no e ↦ omega (arith, total_at n f x (omega arith), at_other f n x e)
]

total_named : (n : ℕ) (f : ℕ → ℕ) (l : List ℕ) → ((i : ℕ) → i < length l → get_or l i 0 < n) → total n (named f l) ≡ along f l
unfolding named along
total_named n f [] h = total_zero n (named f []) (λ u l. refl)
total_named n f (x ∷ xs) h =
    omega (arith, total_add n (λ u. at f u x) (named f xs), total_at n f x (h 0 (omega arith)), total_named n f xs (λ i l. h (suc i) (omega arith)))

named_none : (f : ℕ → ℕ) (l : List ℕ) (u : ℕ) → ((i : ℕ) → i < length l → get_or l i 0 ≡ u → ⊥) → named f l u ≡ 0
unfolding named
named_none f [] u h = refl
named_none f (x ∷ xs) u h = omega (arith, at_other f u x (h 0 (omega arith)), named_none f xs u (λ i l. h (suc i) (omega arith)))

-- no place holds what a later one holds
abbrev pub Once : List ℕ → Type 0
Once l = (j k : ℕ) → j < k → k < length l → get_or l j 0 ≡ get_or l k 0 → ⊥

once_rest : (x : ℕ) (xs : List ℕ) → Once (x ∷ xs) → Once xs
once_rest x xs o j k h l e = o (suc j) (suc k) (omega arith) (omega arith) e

-- a list without repeats names u as often as not, or once
named-one : (f : ℕ → ℕ) (l : List ℕ) (u : ℕ) → Once l → (i : ℕ) → i < length l → get_or l i 0 ≡ u → named f l u ≡ f u
unfolding named
named-one f [] u o i h e = absurd (omega arith)
named-one f (x ∷ xs) u o zero h e =
    omega (arith, at_same f u x e, named_none f xs u (λ i l q. o 0 (suc i) (omega arith) (omega arith) (e ∙ sym q)))
named-one f (x ∷ xs) u o (suc i) h e =
    omega (arith, at_other f u x (λ q. o 0 (suc i) (omega arith) (omega arith) (q ∙ sym e)), named-one f xs u (once_rest x xs o) i (omega arith) e)

-- either some place holds u, or none does
search_for : (l : List ℕ) (u : ℕ) → ((i : ℕ) × (i < length l) × (get_or l i 0 ≡ u)) ⊎ ((i : ℕ) → i < length l → get_or l i 0 ≡ u → ⊥)
search_for [] u = inr (λ i h e. omega arith)
search_for (x ∷ xs) u = elim (ℕ_discrete x u) [
  | yes e ↦ inl (0, omega arith, e)
  | no e ↦ ⊎_elim (λ (w : (i : ℕ) × (i < length xs) × (get_or xs i 0 ≡ u)). inl (suc w.0, omega (arith, w.1), w.2))
      (λ (w : (i : ℕ) → i < length xs → get_or xs i 0 ≡ u → ⊥). inr (λ i. later x u xs w e i)) (search_for xs u)
]
  where
    later : (x u : ℕ) (xs : List ℕ) → ((i : ℕ) → i < length xs → get_or xs i 0 ≡ u → ⊥) → (x ≡ u → ⊥) → (i : ℕ) → i < length (x ∷ xs) → get_or (x ∷ xs) i 0 ≡ u → ⊥
    later x u xs w f zero h e = f e
    later x u xs w f (suc i) h e = w i (omega arith) e

-- ---- the first place of a number

place_first : (l : List ℕ) (u i : ℕ) → i < length l → get_or l i 0 ≡ u → (new_number l u ≤ i) × (get_or l (new_number l u) 0 ≡ u)
unfolding new_number
place_first [] u i h e = absurd (omega arith)
place_first (x ∷ xs) u zero h e =
    let z : new_number (x ∷ xs) u ≡ 0 = ap (λ (b : Bool). cond b 0 (suc (new_number xs u))) (eq-eqb x u e) in
    (omega arith, ap (λ (k : ℕ). get_or (x ∷ xs) k 0) z ∙ e)
place_first (x ∷ xs) u (suc i) h e =
    let r = place_first xs u i (omega arith) e in
    elim (ℕ_discrete x u) [
      | yes q ↦
          let z : new_number (x ∷ xs) u ≡ 0 = ap (λ (b : Bool). cond b 0 (suc (new_number xs u))) (eq-eqb x u q) in
          (omega arith, ap (λ (k : ℕ). get_or (x ∷ xs) k 0) z ∙ q)
      | no q ↦
          let z : new_number (x ∷ xs) u ≡ suc (new_number xs u) = ap (λ (b : Bool). cond b 0 (suc (new_number xs u))) (ne_eqb x u q) in
          (omega (arith, r.0), ap (λ (k : ℕ). get_or (x ∷ xs) k 0) z ∙ r.1)
    ]

-- ---- an order

pub once_of : (order : List ℕ) → none_twice order ≡ true → Once order
unfolding none_twice
once_of order p j k h l e =
    eqb-false (get_or order j 0) (get_or order k 0)
    (not-true (eqb (get_or order j 0) (get_or order k 0))
    (every-at (λ j. not (eqb (get_or order j 0) (get_or order k 0))) k (every-at (λ k. every k (λ j. not (eqb (get_or order j 0) (get_or order k 0)))) (length order) p k l) j h))
    e

module _ (order : List ℕ) (o : IsOrder order) where
  pub order_below : (i : ℕ) → i < length order → get_or order i 0 < length order
  order_below = below_at (length order) order o.below

  pub order-once : Once order
  order-once = once_of order o.once

  few-named : (u : ℕ) → named (λ v. 1) order u ≤ 1
  few-named u = ⊎_elim
      (λ (w : (i : ℕ) × (i < length order) × (get_or order i 0 ≡ u)). omega (arith, named-one (λ v. 1) order u order-once w.0 w.1 w.2))
      (λ (w : (i : ℕ) → i < length order → get_or order i 0 ≡ u → ⊥). omega (arith, named_none (λ v. 1) order u w))
      (search_for order u)

  along-ones : (l : List ℕ) → along (λ v. 1) l ≡ length l
  unfolding along
  along-ones [] = refl
  along-ones (x ∷ xs) = omega (arith, along-ones xs)

  -- each vertex stands somewhere
  pub found : (u : ℕ) → u < length order → (i : ℕ) × (i < length order) × (get_or order i 0 ≡ u)
  found u h = ⊎_elim (λ (w : (i : ℕ) × (i < length order) × (get_or order i 0 ≡ u)). w)
      (λ (w : (i : ℕ) → i < length order → get_or order i 0 ≡ u → ⊥).
      let z = named_none (λ v. 1) order u w in
      let less = total_less (length order) (named (λ v. 1) order) u h z (λ k b. few-named k) in
      absurd (omega (arith, total_named (length order) (λ v. 1) order order_below, along-ones order)))
      (search_for order u)

  -- the new numbers are the inverse of the order
  pub new-below : (u : ℕ) → u < length order → new_number order u < length order
  new-below u h =
      let w = found u h in
      let r = place_first order u w.0 w.1 w.2 in
      omega (arith, r.0, w.1)

  pub old_of_new : (u : ℕ) → u < length order → get_or order (new_number order u) 0 ≡ u
  old_of_new u h =
      let w = found u h in
      (place_first order u w.0 w.1 w.2).1

  pub new_of_old : (k : ℕ) → k < length order → new_number order (get_or order k 0) ≡ k
  new_of_old k h =
      let r = place_first order (get_or order k 0) k h refl in
      elim (ℕ_discrete (new_number order (get_or order k 0)) k) [ yes e ↦ e | no e ↦ absurd (order-once (new_number order (get_or order k 0)) k (omega (arith, r.0)) h r.1) ]

  pub new-differ : (u w : ℕ) → u < length order → w < length order → new_number order u ≡ new_number order w → u ≡ w
  new-differ u w h g e = sym (old_of_new u h) ∙ ap (λ (k : ℕ). get_or order k 0) e ∙ old_of_new w g

  -- a sum over the order is the sum over the vertices
  pub along-order : (f : ℕ → ℕ) → along f order ≡ total (length order) f
  along-order f =
      sym (total_named (length order) f order order_below)
      ∙ total_same (length order) (named f order) f (λ u h. let w = found u h in named-one f order u order-once w.0 w.1 w.2)
