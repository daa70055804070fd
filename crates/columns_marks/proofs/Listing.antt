-- Laws of the numbers below a count for which a test holds, and of listing the bytes that are set. Assumes nothing.
use mathlib.Core.Path.{◌≡◌, refl, sym, ap, ◌∙◌}
use mathlib.Core.Bool.{Bool, true, false, not}
use mathlib.Core.List.{List, [], ◌∷◌, ◌++◌, append-nil}
use Prim.Native.Nat.{ℕ, zero, suc, ◌+◌, ◌-◌, ◌≤◌, ◌<◌}
use native.Mathlib.Nat.{zero-add}
use native.Mathlib.Decide.{ℕ_discrete, dec_lt}
use native.Mathlib.Omega.{arith}
use lib.ListN.{length, get_or, length-append, get_or-append}
use lib.Seq.{sets, get_or-append-add}
use lib.Dec.{eqb}
use Rattle.columns.specs.Lists.{joined, when, over}
use Rattle.columns.proofs.Columns.{sets-append, over-in, over-past, length_over}
use Rattle.columns.proofs.Counting.{joined-more, joined_same}
use Rattle.columns_neighbors.specs.Lists.{chosen}
use Rattle.columns_marks.specs.Marks.{is_set, listed, AscendingList}

pub when_few : {A : Type 0} (b : Bool) (x : A) → length (when b x) ≤ 1
when_few true x = omega arith
when_few false x = omega arith

-- a byte of 0 or 1 is set exactly where it is 1
pub set_is_one : (x : ℕ) → x ≤ 1 → is_set x ≡ eqb x 1
set_is_one zero h = refl
set_is_one (suc zero) h = refl
set_is_one (suc (suc x)) h = absurd (omega arith)

module _ (test : ℕ → Bool) where
  pub chosen_none : chosen 0 test ≡ []
  unfolding chosen joined
  chosen_none = refl

  pub chosen_more : (n : ℕ) → chosen (n + 1) test ≡ chosen n test ++ when (test n) n
  unfolding chosen
  chosen_more n = joined-more n (λ k. when (test k) k)

  pub chosen-few : (n : ℕ) → length (chosen n test) ≤ n
  unfolding chosen joined
  chosen-few zero = omega arith
  chosen-few (suc n) = omega (arith, length-append (chosen n test) (when (test n) n), chosen-few n, when_few (test n) n)

  -- each number that is listed is below n and passes
  pub record Passes (n x : ℕ) : Type 0 where
    pub below : x < n
    pub passes : test x ≡ true

  new-at : (n : ℕ) (b : Bool) → test n ≡ b → (i : ℕ) → i < length (when b n) → Passes (suc n) (get_or (when b n) i 0)
  new-at n true e zero h = record { below = omega arith; passes = e }
  new-at n true e (suc i) h = absurd (omega arith)
  new-at n false e i h = absurd (omega arith)

  pub chosen_at : (n : ℕ) (i : ℕ) → i < length (chosen n test) → Passes n (get_or (chosen n test) i 0)
  unfolding chosen joined
  chosen_at zero i h = absurd (omega arith)
  chosen_at (suc n) i h = go (dec_lt i (length (chosen n test))) (chosen_at n i)
    where
      go : Dec (i < length (chosen n test)) → (i < length (chosen n test) → Passes n (get_or (chosen n test) i 0)) → Passes (suc n) (get_or (chosen n test ++ when (test n) n) i 0)
      go (yes l) before = rw (get_or-append (chosen n test) (when (test n) n) 0 i l) (let p = before l in record { below = omega (arith, p.below); passes = p.passes })
      go (no l) before =
          let k : ℕ = i - length (chosen n test) in
          let i-is : i ≡ length (chosen n test) + k = omega arith in
          rw (i-is, get_or-append-add (chosen n test) (when (test n) n) k 0) (new-at n (test n) refl k (omega (arith, length-append (chosen n test) (when (test n) n))))

  pub chosen-below : (n : ℕ) (i : ℕ) → i < length (chosen n test) → get_or (chosen n test) i 0 < n
  chosen-below n i h = (chosen_at n i h).below

  -- each number below n that passes is listed
  pub chosen-has : (n : ℕ) (k : ℕ) → k < n → test k ≡ true → (i : ℕ) × ((i < length (chosen n test)) × (get_or (chosen n test) i 0 ≡ k))
  unfolding chosen joined
  chosen-has zero k h p = absurd (omega arith)
  chosen-has (suc n) k h p = go (ℕ_discrete k n) (chosen-has n k)
    where
      go : Dec (k ≡ n) → (k < n → test k ≡ true → (i : ℕ) × ((i < length (chosen n test)) × (get_or (chosen n test) i 0 ≡ k)))
          → (i : ℕ) × ((i < length (chosen n test ++ when (test n) n)) × (get_or (chosen n test ++ when (test n) n) i 0 ≡ k))
      go (yes e) before = rw (sym (ap test e) ∙ p) (
        length (chosen n test) + 0,
        (
          omega (arith, length-append (chosen n test) (n ∷ [])),
          get_or-append-add (chosen n test) (n ∷ []) 0 0 ∙ sym e,
        ),
      )
      go (no e) before = let (i, (l, q)) = before (omega arith) p in (
        i,
        (
          omega (arith, length-append (chosen n test) (when (test n) n)),
          get_or-append (chosen n test) (when (test n) n) 0 i l ∙ q,
        ),
      )

  -- the list ascends
  pub chosen_ascends : (n : ℕ) (i j : ℕ) → i < j → j < length (chosen n test) → get_or (chosen n test) i 0 < get_or (chosen n test) j 0
  unfolding chosen joined
  chosen_ascends zero i j h l = absurd (omega arith)
  chosen_ascends (suc n) i j h l = go (dec_lt j (length (chosen n test))) (chosen_ascends n i j h)
    where
      go : Dec (j < length (chosen n test)) → (j < length (chosen n test) → get_or (chosen n test) i 0 < get_or (chosen n test) j 0)
          → get_or (chosen n test ++ when (test n) n) i 0 < get_or (chosen n test ++ when (test n) n) j 0
      go (yes k) before =
          let i_in : i < length (chosen n test) = omega arith in
          rw (get_or-append (chosen n test) (when (test n) n) 0 i i_in, get_or-append (chosen n test) (when (test n) n) 0 j k) (before k)
      go (no k) before =
          let i_in : i < length (chosen n test) = omega (arith, length-append (chosen n test) (when (test n) n), when_few (test n) n) in
          let d : ℕ = j - length (chosen n test) in
          let j-is : j ≡ length (chosen n test) + d = omega arith in
          rw (get_or-append (chosen n test) (when (test n) n) 0 i i_in, j-is, get_or-append-add (chosen n test) (when (test n) n) d 0)
          (last (test n) d (omega (arith, length-append (chosen n test) (when (test n) n))) (get_or (chosen n test) i 0) (chosen_at n i i_in).below)
        where
          last : (b : Bool) (d : ℕ) → d < length (when b n) → (x : ℕ) → x < n → x < get_or (when b n) d 0
          last true zero h x l = l
          last true (suc d) h x l = absurd (omega arith)
          last false d h x l = absurd (omega arith)

-- tests that agree choose the same numbers
pub chosen_same : (n : ℕ) (f g : ℕ → Bool) → ((k : ℕ) → k < n → f k ≡ g k) → chosen n f ≡ chosen n g
unfolding chosen
chosen_same n f g h = joined_same n _ _ (λ k l. ap (λ (b : Bool). when b k) (h k l))

-- a column that was written with such a list
pub chosen_list : (test : ℕ → Bool) (k n : ℕ) (list₀ list : List ℕ) → k ≤ length list₀ → n ≡ length (chosen k test) → list ≡ over (chosen k test) list₀ → AscendingList n list₀ list
chosen_list test k n list₀ list room many is = record {
  ascends = λ i j h l.
      omega (
        arith,
        ap (λ (x : List ℕ). get_or x i 0) is ∙ over-in (chosen k test) list₀ 0 i (omega arith),
        ap (λ (x : List ℕ). get_or x j 0) is ∙ over-in (chosen k test) list₀ 0 j (omega arith),
        chosen_ascends test k i j h (omega arith),
      );
  unchanged = λ i h. ap (λ (x : List ℕ). get_or x i 0) is ∙ over-past (chosen k test) list₀ 0 i (omega arith);
  fits = let few = chosen-few test k in omega (arith, ap length is ∙ length_over (chosen k test) list₀ (omega (arith, few, room)), few);
  same_length = ap length is ∙ length_over (chosen k test) list₀ (omega (arith, chosen-few test k, room));
}

pub listed_list : (k n : ℕ) (column list₀ list : List ℕ) → k ≤ length list₀ → n ≡ length (listed k column) → list ≡ over (listed k column) list₀ → AscendingList n list₀ list
unfolding listed
listed_list k n column list₀ list room many is = chosen_list (λ u. is_set (get_or column u 0)) k n list₀ list room many is

-- ---- a loop that lists the bytes that are set

module _ (column : List ℕ) where
  pub listed-few : (n : ℕ) → length (listed n column) ≤ n
  unfolding listed
  listed-few n = chosen-few (λ k. is_set (get_or column k 0)) n

  pub listed-none : listed 0 column ≡ []
  unfolding listed chosen joined
  listed-none = refl

  listed_more : (k : ℕ) → listed (k + 1) column ≡ listed k column ++ when (is_set (get_or column k 0)) k
  unfolding listed
  listed_more k = chosen_more (λ k. is_set (get_or column k 0)) k

  -- one number more is stored, if its byte is set
  pub listed-store : (k : ℕ) (l : List ℕ) {at : ℕ} {ok : Bool} {list list' : List ℕ} → ok ≡ is_set (get_or column k 0) → at ≡ length (listed k column) → list ≡ sets l 0 (listed k column)
      → list' ≡ sets list at (when ok k) → list' ≡ sets l 0 (listed (k + 1) column)
  listed-store k l t c e e' =
      let b = is_set (get_or column k 0) in
      let xs = listed k column in
      e' ∙ (λ i. sets (e i) (c i) (when (t i) k)) ∙ ap (λ (m : ℕ). sets (sets l 0 xs) m (when b k)) (sym (zero-add (length xs)))
      ∙ sym (sets-append l 0 xs (when b k)) ∙ ap (sets l 0) (sym (listed_more k))

  pub listed-count : (k : ℕ) {at r : ℕ} {ok : Bool} → ok ≡ is_set (get_or column k 0) → at ≡ length (listed k column) → r ≡ at + length (when ok k) → r ≡ length (listed (k + 1) column)
  listed-count k t c e =
      e ∙ (λ i. c i + length (when (t i) k)) ∙ sym (length-append (listed k column) (when (is_set (get_or column k 0)) k)) ∙ ap length (sym (listed_more k))

  -- a byte of 0 adds no number
  pub listed-zero : (k : ℕ) → eqb (get_or column k 0) 0 ≡ true → listed (k + 1) column ≡ listed k column
  listed-zero k z = listed_more k ∙ ap (λ (b : Bool). listed k column ++ when (not b) k) z ∙ append-nil (listed k column)
