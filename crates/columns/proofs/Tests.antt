-- Laws of a test of every element of a list. Assumes nothing.
use mathlib.Core.Path.{◌≡◌, refl, sym, ap, ◌∙◌, subst}
use mathlib.Core.Bool.{Bool, true, false, ◌&&◌}
use Prim.Native.Nat.{ℕ, zero, suc, ◌+◌, ◌≤◌, ◌<◌, min}
use native.Mathlib.Numerals.{add-one}
use native.Mathlib.Omega.{arith}
use mathlib.Core.List.{List, [], ◌∷◌, ◌++◌}
use lib.ListN.{length, take, get_or, length-take}
use lib.Seq.{take-suc, take_all, get_or-take}
use lib.Dec.{leb, ltb}
use borrow.Author.Tests.{ltb-true, leb-true, lt-ltb, le-leb}
use Rattle.columns.specs.Questions.{all, every, all_below, all_within}

pub and_both : (a b : Bool) → (a && b) ≡ true → (a ≡ true) × (b ≡ true)
and_both true b e = (refl, e)
and_both false b e = (e, absurd (let z : ◌≡◌ {A = ℕ} 0 1 = cc in omega arith))

pub both_and : {a b : Bool} → a ≡ true → b ≡ true → (a && b) ≡ true
both_and {a} {b} p q = rw p q

module _ {A : Type 0} (test : A → Bool) where
  pub all_append : (xs ys : List A) → all test (xs ++ ys) ≡ (all test xs && all test ys)
  unfolding all
  all_append [] ys = refl
  all_append (x ∷ xs) ys = go (test x) (all_append xs ys)
    where
      go : (b : Bool) → all test (xs ++ ys) ≡ (all test xs && all test ys) → (b && all test (xs ++ ys)) ≡ ((b && all test xs) && all test ys)
      go true e = e
      go false e = refl

  -- each element passes, and back
  pub all-at : (xs : List A) → all test xs ≡ true → (d : A) (i : ℕ) → i < length xs → test (get_or xs i d) ≡ true
  unfolding all
  all-at [] p d i h = absurd (omega arith)
  all-at (x ∷ xs) p d zero h = (and_both (test x) (all test xs) p).0
  all-at (x ∷ xs) p d (suc i) h = all-at xs (and_both (test x) (all test xs) p).1 d i (omega arith)

  pub at_all : (xs : List A) (d : A) → ((i : ℕ) → i < length xs → test (get_or xs i d) ≡ true) → all test xs ≡ true
  unfolding all
  at_all [] d f = refl
  at_all (x ∷ xs) d f = both_and (f 0 (omega arith)) (at_all xs d (λ i h. f (suc i) (omega arith)))

  -- one that fails is enough
  pub all-not : (xs : List A) (d : A) (i : ℕ) → i < length xs → test (get_or xs i d) ≡ false → all test xs ≡ false
  all-not xs d i h e = go (all test xs) refl
    where
      go : (b : Bool) → all test xs ≡ b → b ≡ false
      go false p = refl
      go true p = let q = all-at xs p d i h in absurd (let z : ◌≡◌ {A = ℕ} 0 1 = cc in omega arith)

  -- a loop over the first n elements, of which there are m at most: a turn, an element that fails, the end
  module _ (s : List A) (d : A) where
    pub all_more : (i : ℕ) → i < length s → all test (take i s) ≡ true → test (get_or s i d) ≡ true → all test (take (i + 1) s) ≡ true
    unfolding all
    all_more i h p q =
        ap (λ (k : ℕ). all test (take k s)) (add-one i) ∙ ap (all test) (take-suc s i d h)
        ∙ all_append (take i s) (get_or s i d ∷ []) ∙ both_and p (both_and q refl)

    -- the test of one element more
    pub all-next : (i : ℕ) → i < length s → all test (take (i + 1) s) ≡ (all test (take i s) && test (get_or s i d))
    unfolding all
    all-next i h =
        ap (λ (k : ℕ). all test (take k s)) (add-one i) ∙ ap (all test) (take-suc s i d h)
        ∙ all_append (take i s) (get_or s i d ∷ []) ∙ ap (λ b. all test (take i s) && b) (last (test (get_or s i d)))
      where
        last : (b : Bool) → (b && true) ≡ b
        last true = refl
        last false = refl

    pub all-fails : (n i : ℕ) → i < n → i < length s → test (get_or s i d) ≡ false → all test (take n s) ≡ false
    all-fails n i k h e = all-not (take n s) d i (omega (arith, length-take n s)) (ap test (get_or-take n s i d k) ∙ e)

    -- past the list's end there is nothing to test
    pub all_whole : (n i : ℕ) → i ≤ n → min n (length s) ≤ i → all test (take n s) ≡ all test (take i s)
    all_whole n i k h = ap (all test) (first-min s n i k h)
      where
        first-min : (s : List A) (n i : ℕ) → i ≤ n → min n (length s) ≤ i → take n s ≡ take i s
        first-min s n i k h = elim (native.Mathlib.Decide.dec_le n i) [
          | yes l ↦ ap (λ (j : ℕ). take j s) (native.Mathlib.Nat.le_antisymm l k)
          | no l ↦ take_all n s (omega arith) ∙ sym (take_all i s (omega arith))
        ]

    pub all_end : (n i : ℕ) → i ≤ n → min n (length s) ≤ i → all test (take i s) ≡ true → all test (take n s) ≡ true
    all_end n i k h p = all_whole n i k h ∙ p

-- a loop over the first m elements, m the lesser of n and the length, at its end
pub all_ends : {A : Type 0} (test : A → Bool) (s : List A) (n m k : ℕ) → m ≡ min n (length s) → length (take m s) ≤ k → all test (take k (take m s)) ≡ all test (take n s)
all_ends test s n m k e h = ap (all test) (take_all k (take m s) h ∙ first s n m e)
  where
    first : {A : Type 0} (s : List A) (n m : ℕ) → m ≡ min n (length s) → take m s ≡ take n s
    first s n m e = elim (native.Mathlib.Decide.dec_le n (length s)) [
      | yes l ↦ ap (λ (j : ℕ). take j s) (omega arith)
      | no l ↦ take_all m s (omega arith) ∙ sym (take_all n s (omega arith))
    ]

-- every number below a count
module _ (test : ℕ → Bool) where
  pub every-at : (n : ℕ) → every n test ≡ true → (k : ℕ) → k < n → test k ≡ true
  unfolding every
  every-at zero p k h = absurd (omega arith)
  every-at (suc n) p k h =
      let q = and_both (every n test) (test n) p in
      elim (native.Mathlib.Decide.ℕ_discrete k n) [ yes e ↦ ap test e ∙ q.1 | no e ↦ every-at n q.0 k (omega arith) ]

  pub at_every : (n : ℕ) → ((k : ℕ) → k < n → test k ≡ true) → every n test ≡ true
  unfolding every
  at_every zero f = refl
  at_every (suc n) f = both_and (at_every n (λ k h. f k (omega arith))) (f n (omega arith))

  pub every-not : (n k : ℕ) → k < n → test k ≡ false → every n test ≡ false
  every-not n k h e = go (every n test) refl
    where
      go : (b : Bool) → every n test ≡ b → b ≡ false
      go false p = refl
      go true p = let q = every-at n p k h in absurd (let z : ◌≡◌ {A = ℕ} 0 1 = cc in omega arith)

  pub every_more : (n : ℕ) → every n test ≡ true → test n ≡ true → every (n + 1) test ≡ true
  unfolding every
  every_more n p q = ap (λ (k : ℕ). every k test) (add-one n) ∙ both_and p q

-- the two tests by numbers
pub below_at : (limit : ℕ) (xs : List ℕ) → all_below limit xs ≡ true → (i : ℕ) → i < length xs → get_or xs i 0 < limit
below_at limit xs p i h = ltb-true (get_or xs i 0) limit (all-at (λ x. ltb x limit) xs p 0 i h)

pub within_at : (limit : ℕ) (xs : List ℕ) → all_within limit xs ≡ true → (i : ℕ) → i < length xs → get_or xs i 0 ≤ limit
within_at limit xs p i h = leb-true (get_or xs i 0) limit (all-at (λ x. leb x limit) xs p 0 i h)

-- of a column's first n places
pub below_first : (limit n : ℕ) (xs : List ℕ) → all_below limit (take n xs) ≡ true → n ≤ length xs → (i : ℕ) → i < n → get_or xs i 0 < limit
below_first limit n xs p l i h =
    subst (λ (x : ℕ). x < limit) (get_or-take n xs i 0 h) (below_at limit (take n xs) p i (omega (arith, length-take n xs)))

pub within_first : (limit n : ℕ) (xs : List ℕ) → all_within limit (take n xs) ≡ true → n ≤ length xs → (i : ℕ) → i < n → get_or xs i 0 ≤ limit
within_first limit n xs p l i h =
    subst (λ (x : ℕ). x ≤ limit) (get_or-take n xs i 0 h) (within_at limit (take n xs) p i (omega (arith, length-take n xs)))

-- what holds of every number passes
pub at_below : (limit : ℕ) (xs : List ℕ) → ((i : ℕ) → i < length xs → get_or xs i 0 < limit) → all_below limit xs ≡ true
at_below limit xs f = at_all (λ x. ltb x limit) xs 0 (λ i h. lt-ltb (get_or xs i 0) limit (f i h))

pub at_within : (limit : ℕ) (xs : List ℕ) → ((i : ℕ) → i < length xs → get_or xs i 0 ≤ limit) → all_within limit xs ≡ true
at_within limit xs f = at_all (λ x. leb x limit) xs 0 (λ i h. le-leb (get_or xs i 0) limit (f i h))
