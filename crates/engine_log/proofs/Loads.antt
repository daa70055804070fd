-- Laws of loads, of the log and of undoing it. Assumes nothing.
use mathlib.Core.Path.{◌≡◌, refl, ap, ◌∙◌}
use mathlib.Core.Logic.{⊎_elim}
use mathlib.Core.Bool.{true}
use mathlib.Core.List.{List}
use Prim.Native.Nat.{ℕ, zero, suc, ◌≤◌, ◌<◌}
use native.Mathlib.Nat.{le_of_suc-le-suc, not-suc-le-zero, eq-or-lt_of_le}
use native.Mathlib.Decide.{ℕ_discrete}
use native.Mathlib.Omega.{arith}
use lib.ListN.{length, get_or, take, set, length-set}
use lib.Seq.{get_or-set_same, get_or-set_other, set-set, set-get_or, take-set-lt}
use Rattle.columns.specs.Questions.{all_within}
use Rattle.columns.proofs.Tests.{within_at, at_within}
use Rattle.engine_log.specs.Load.{loaded, earlier, named, undone}

-- a load and a reset keep the columns' lengths
pub loaded-length : (es : List ℕ) (x : ℕ → ℕ) (n : ℕ) (w : List ℕ) → length (loaded es x n w) ≡ length w
loaded-length es x zero w = refl
loaded-length es x (suc n) w = length-set (loaded es x n w) (get_or es n 0) (x n) ∙ loaded-length es x n w

pub named-length : (es : List ℕ) (n : ℕ) (l : List ℕ) → length (named es n l) ≡ length l
named-length es zero l = refl
named-length es (suc n) l = length-set (named es n l) n (get_or es n 0) ∙ named-length es n l

pub earlier-length : (es : List ℕ) (x : ℕ → ℕ) (n : ℕ) (w l : List ℕ) → length (earlier es x n w l) ≡ length l
earlier-length es x zero w l = refl
earlier-length es x (suc n) w l = length-set (earlier es x n w l) n (get_or (loaded es x n w) (get_or es n 0) 0) ∙ earlier-length es x n w l

pub undone-length : (es ls : List ℕ) (n : ℕ) (w : List ℕ) → length (undone es ls n w) ≡ length w
undone-length es ls zero w = refl
undone-length es ls (suc n) w = undone-length es ls n (set w (get_or es n 0) (get_or ls n 0)) ∙ length-set w (get_or es n 0) (get_or ls n 0)

-- entries past the first k do not matter to undoing the first k
undone_past : (k : ℕ) (es ls : List ℕ) (j a b : ℕ) (w : List ℕ) → k ≤ j
    → undone (set es j a) (set ls j b) k w ≡ undone es ls k w
undone_past zero es ls j a b w h = refl
undone_past (suc k) es ls j a b w h =
    let d : k ≡ j → ⊥ = λ q. omega arith in
    rw (get_or-set_other es j k a 0 d, get_or-set_other ls j k b 0 d)
    (undone_past k es ls j a b (set w (get_or es k 0) (get_or ls k 0)) (omega arith))

-- a load of k entries undone
pub undo_load : (es : List ℕ) (x : ℕ → ℕ) (k : ℕ) (w l m : List ℕ) → k ≤ length l → k ≤ length m
    → undone (named es k l) (earlier es x k w m) k (loaded es x k w) ≡ w
undo_load es x zero w l m h g = refl
undo_load es x (suc k) w l m h g =
    let n = named es k l in
    let p = earlier es x k w m in
    let v = loaded es x k w in
    let e = get_or es k 0 in
    let hn : k < length n = rw named-length h in
    let hp : k < length p = rw earlier-length g in
    rw (get_or-set_same n k e 0 hn, get_or-set_same p k (get_or v e 0) 0 hp, set-set v e (x k) (get_or v e 0), set-get_or v e 0)
    (undone_past k n p k e (get_or v e 0) v (omega arith) ∙ undo_load es x k w l m (omega arith) (omega arith))

-- a load within the first n places
pub take-loaded : (n : ℕ) (es : List ℕ) (x : ℕ → ℕ) (k : ℕ) (w : List ℕ) → ((i : ℕ) → i < k → get_or es i 0 < n)
    → take n (loaded es x k w) ≡ loaded es x k (take n w)
take-loaded n es x zero w h = refl
take-loaded n es x (suc k) w h =
    take-set-lt n (loaded es x k w) (get_or es k 0) (x k) (h k (omega arith))
    ∙ ap (λ (l : List ℕ). set l (get_or es k 0) (x k)) (take-loaded n es x k w (λ i g. h i (omega arith)))

-- a store of a number within the limit
within_set : (b : ℕ) (l : List ℕ) (i a : ℕ) → all_within b l ≡ true → a ≤ b → all_within b (set l i a) ≡ true
within_set b l i a e h = at_within b (set l i a) (λ j k. elim (ℕ_discrete j i) [
  | yes q ↦ rw (q, get_or-set_same l i a 0 (omega (arith, length-set l i a))) h
  | no q ↦ rw (get_or-set_other l i j a 0 q) (within_at b l e j (omega (arith, length-set l i a)))
])

pub within_loaded : (b : ℕ) (es : List ℕ) (x : ℕ → ℕ) (k : ℕ) (l : List ℕ) → all_within b l ≡ true → ((i : ℕ) → i < k → x i ≤ b)
    → all_within b (loaded es x k l) ≡ true
within_loaded b es x zero l e h = e
within_loaded b es x (suc k) l e h =
    within_set b (loaded es x k l) (get_or es k 0) (x k) (within_loaded b es x k l e (λ i g. h i (omega arith))) (h k (omega arith))

-- the log's entries
pub named_at : (es : List ℕ) (n : ℕ) (l : List ℕ) (j : ℕ) → j < n → n ≤ length l → get_or (named es n l) j 0 ≡ get_or es j 0
named_at es zero l j h g = absurd (not-suc-le-zero h)
named_at es (suc n) l j h g =
    ⊎_elim
    (λ (q : j ≡ n). rw q (get_or-set_same (named es n l) n (get_or es n 0) 0 (rw named-length g)))
    (λ (k : j < n). get_or-set_other (named es n l) n j (get_or es n 0) 0 (λ q. omega arith) ∙ named_at es n l j k (omega arith))
    (eq-or-lt_of_le (le_of_suc-le-suc h))

pub earlier_at : (es : List ℕ) (x : ℕ → ℕ) (n : ℕ) (w l : List ℕ) (j : ℕ) → j < n → n ≤ length l
    → get_or (earlier es x n w l) j 0 ≡ get_or (loaded es x j w) (get_or es j 0) 0
earlier_at es x zero w l j h g = absurd (not-suc-le-zero h)
earlier_at es x (suc n) w l j h g =
    let v = get_or (loaded es x n w) (get_or es n 0) 0 in
    ⊎_elim
    (λ (q : j ≡ n). rw q (get_or-set_same (earlier es x n w l) n v 0 (rw earlier-length g)))
    (λ (k : j < n). get_or-set_other (earlier es x n w l) n j v 0 (λ q. omega arith) ∙ earlier_at es x n w l j k (omega arith))
    (eq-or-lt_of_le (le_of_suc-le-suc h))
