-- Laws of the tests of pairs of ends. Assumes nothing.
use mathlib.Core.Path.{◌≡◌, refl, sym, ap, ap₂, ◌∙◌, subst}
use mathlib.Core.Logic.{⊎_elim, ◌⊎◌, inl, inr}
use mathlib.Core.Bool.{Bool, true, false, not, ◌&&◌, ◌||◌}
use mathlib.Core.List.{List}
use Prim.Native.Nat.{ℕ, zero, suc, ◌+◌, ◌≤◌, ◌<◌, min, max}
use native.Mathlib.Nat.{eq-or-lt_of_le, le_of_lt}
use native.Mathlib.Decide.{ℕ_discrete, dec_le}
use native.Mathlib.Omega.{arith}
use borrow.Author.Tests.{eq-eqb, ne_eqb, eqb-true}
use lib.ListN.{get_or, set, length, replicate, length-replicate}
use lib.Seq.{get_or-set_same, get_or-set_other}
use lib.Dec.{eqb}
use Rattle.columns.specs.Questions.{every}
use Rattle.columns.proofs.Tests.{every-not, at_every, every-at}
use Rattle.columns_pairs.specs.Pairs.{same_pair, pairs_apart, ends_differ, low_at, high_at, OnePair}
use Rattle.columns_pairs.specs.Listed.{Table}

-- two pairs are the same where their smaller and their larger numbers are
either : (x y u v : ℕ) → min x y ≡ min u v → max x y ≡ max u v → ((x ≡ u) × (y ≡ v)) ⊎ ((x ≡ v) × (y ≡ u))
either x y u v p q = elim (ℕ_discrete x u) [ yes e ↦ inl (e, omega arith) | no e ↦ inr (omega arith, omega arith) ]

or_true : (a b : Bool) → b ≡ true → (a || b) ≡ true
or_true true b e = refl
or_true false b e = e

test_true : {x y u v : ℕ} → ((x ≡ u) × (y ≡ v)) ⊎ ((x ≡ v) × (y ≡ u)) → ((eqb x u && eqb y v) || (eqb x v && eqb y u)) ≡ true
test_true {x} {y} {u} {v} (inl (p, q)) = rw (eq-eqb x u p, eq-eqb y v q)
test_true {x} {y} {u} {v} (inr (p, q)) = or_true (eqb x u && eqb y v) (eqb x v && eqb y u) (rw (eq-eqb x v p, eq-eqb y u q))

and_false : (a b : Bool) → (a ≡ true → b ≡ true → ⊥) → (a && b) ≡ false
and_false true true f = absurd (f refl refl)
and_false true false f = refl
and_false false b f = refl

test_false : {x y u v : ℕ} → ((x ≡ u) → (y ≡ v) → ⊥) → ((x ≡ v) → (y ≡ u) → ⊥) → ((eqb x u && eqb y v) || (eqb x v && eqb y u)) ≡ false
test_false {x} {y} {u} {v} f g =
    ap₂ (λ (a b : Bool). a || b)
    (and_false (eqb x u) (eqb y v) (λ p q. f (eqb-true x u p) (eqb-true y v q)))
    (and_false (eqb x v) (eqb y u) (λ p q. g (eqb-true x v p) (eqb-true y u q)))

module _ (a b : List ℕ) (i : ℕ) where
  -- an edge before k joins the pair of edge i
  pub fresh-not : (k m : ℕ) → m < k → low_at a b m ≡ low_at a b i → high_at a b m ≡ high_at a b i → every k (λ j. not (same_pair a b j i)) ≡ false
  fresh-not k m h p q =
      every-not (λ j. not (same_pair a b j i)) k m h (ap not (test_true (either (get_or a m 0) (get_or b m 0) (get_or a i 0) (get_or b i 0) p q)))

  -- none does
  pub fresh-all : (k : ℕ) → ((m : ℕ) → m < k → low_at a b m ≡ low_at a b i → high_at a b m ≡ high_at a b i → ⊥) → every k (λ j. not (same_pair a b j i)) ≡ true
  fresh-all k h = at_every (λ j. not (same_pair a b j i)) k (λ m l. ap not (test_false
      (λ p q. h m l (ap₂ min p q) (ap₂ max p q))
      (λ p q. h m l (omega arith) (omega arith))))

pub le_or_lt : (a b : ℕ) → (a ≤ b) ⊎ (b < a)
le_or_lt a b = elim (dec_le a b) [ yes e ↦ inl e | no e ↦ inr (omega arith) ]

pub eq_or_not : (a b : ℕ) → (a ≡ b) ⊎ (a ≡ b → ⊥)
eq_or_not a b = elim (ℕ_discrete a b) [ yes e ↦ inl e | no e ↦ inr e ]

-- larger ends that ascend: `top` has for each smaller end the last larger end before edge i, whose ends are v and y
module _ (a b : List ℕ) (i v y : ℕ) (low : low_at a b i ≡ v) (high : high_at a b i ≡ y) (top : List ℕ) (room : v < length top) (above : get_or top v 0 < y)
    (last : (j : ℕ) → j < i → high_at a b j ≤ get_or top (low_at a b j) 0) where
  -- an earlier edge with the same smaller end
  before : (j : ℕ) → j < i → low_at a b j ≡ v → high_at a b j < y
  before j l e = go (high_at a b j) (get_or top (low_at a b j) 0) (get_or top v 0) (last j l) (ap (λ (u : ℕ). get_or top u 0) e) above
    where
      go : (x t u : ℕ) → x ≤ t → t ≡ u → u < y → x < y
      go x t u p q r = omega arith

  pub top-fresh : every i (λ j. not (same_pair a b j i)) ≡ true
  top-fresh = fresh-all a b i i (λ m l p q. go (high_at a b m) (high_at a b i) (before m l (p ∙ low)) q high)
    where
      go : (x z : ℕ) → x < y → x ≡ z → z ≡ y → ⊥
      go x z p q r = omega arith

  pub top-more : (j : ℕ) → j < i + 1 → high_at a b j ≤ get_or (set top v y) (low_at a b j) 0
  top-more j l =
      ⊎_elim
      (λ (e : j ≡ i). here j (ap (low_at a b) e ∙ low) (go (high_at a b j) (ap (high_at a b) e ∙ high)))
      (λ (k : j < i).
      ⊎_elim
      (λ (e : low_at a b j ≡ v). here j e (le_of_lt (before j k e)))
      (λ (d : low_at a b j ≡ v → ⊥). subst (λ (t : ℕ). high_at a b j ≤ t) (sym (get_or-set_other top v (low_at a b j) y 0 d)) (last j k))
      (eq_or_not (low_at a b j) v))
      (eq-or-lt_of_le {n = j} {m = i} (omega arith))
    where
      go : (x : ℕ) → x ≡ y → x ≤ y
      go x e = omega arith

      here : (j : ℕ) → low_at a b j ≡ v → high_at a b j ≤ y → high_at a b j ≤ get_or (set top v y) (low_at a b j) 0
      here j e h = subst (λ (t : ℕ). high_at a b j ≤ t) (sym (ap (λ (u : ℕ). get_or (set top v y) u 0) e ∙ get_or-set_same top v y 0 room)) h

-- an array of zeros
pub zeros_at : (n v : ℕ) → get_or {A = ℕ} (replicate n 0) v 0 ≡ 0
zeros_at zero v = refl
zeros_at (suc n) zero = refl
zeros_at (suc n) (suc v) = zeros_at n v

pub zeros_room : (n k : ℕ) → n ≤ k → n ≤ length {A = ℕ} (replicate k 0)
zeros_room n k h = rw (length-replicate {A = ℕ} k 0) h

pub zeros_table : Table 4096 (λ v. 0) (replicate 4096 0)
zeros_table = record { size = length-replicate {A = ℕ} 4096 0; few = omega arith; at = λ v l. zeros_at 4096 v }

-- what the two tests say
pub differ_at : (a b : List ℕ) (e : ℕ) → ends_differ a b e ≡ true → (k : ℕ) → k < e → get_or a k 0 ≡ get_or b k 0 → ⊥
unfolding ends_differ
differ_at a b e p k h q =
    let t = every-at (λ k. not (eqb (get_or a k 0) (get_or b k 0))) e p k h in
    let s : not (eqb (get_or a k 0) (get_or b k 0)) ≡ false = ap not (eq-eqb (get_or a k 0) (get_or b k 0) q) in
    let z : ◌≡◌ {A = ℕ} 0 1 = cc in omega arith

pub at_differ : (a b : List ℕ) (e : ℕ) → ((k : ℕ) → k < e → get_or a k 0 ≡ get_or b k 0 → ⊥) → ends_differ a b e ≡ true
unfolding ends_differ
at_differ a b e f = at_every (λ k. not (eqb (get_or a k 0) (get_or b k 0))) e (λ k h. ap not (ne_eqb (get_or a k 0) (get_or b k 0) (f k h)))

pub apart_at : (a b : List ℕ) (e : ℕ) → pairs_apart a b e ≡ true → (j k : ℕ) → j < k → k < e → OnePair a b j k → ⊥
unfolding pairs_apart
apart_at a b e p j k h l o =
    let t = every-at (λ j. not (same_pair a b j k)) k (every-at (λ k. every k (λ j. not (same_pair a b j k))) e p k l) j h in
    let s : not (same_pair a b j k) ≡ false = ap not (test_true o) in
    let z : ◌≡◌ {A = ℕ} 0 1 = cc in omega arith

pub at_apart : (a b : List ℕ) (e : ℕ) → ((j k : ℕ) → j < k → k < e → OnePair a b j k → ⊥) → pairs_apart a b e ≡ true
unfolding pairs_apart
at_apart a b e f = at_every (λ k. every k (λ j. not (same_pair a b j k))) e (λ k l. at_every (λ j. not (same_pair a b j k)) k (λ j h. ap not (test_false
    (λ p q. f j k h l (inl (p, q))) (λ p q. f j k h l (inr (p, q))))))
