-- Laws of sums, of lists without repetition and of columns. Assumes nothing.
use mathlib.Core.Path.{◌≡◌, refl, sym, ap, ap₂, ◌∙◌}
use mathlib.Core.Logic.{◌≢◌}
use mathlib.Core.List.{List, [], ◌∷◌, ◌++◌, map}
use Prim.Native.Nat.{ℕ, zero, suc, ◌+◌, ◌%◌, ◌≤◌, ◌<◌, zero-le}
use native.Mathlib.Decide.{ℕ_discrete, dec_lt}
use native.Mathlib.Omega.{arith}
use lib.ListN.{length}
use lib.Dec.{ltb}
use borrow.Author.Tests.{eq-eqb, ne_eqb, lt-ltb, le-ltb}
use Rattle.engine_walks.specs.Lists.{bit, delta, sum, All, Distinct}

-- ---- 0 and 1

pub delta_same : (x : ℕ) → delta x x ≡ 1
delta_same x = ap bit (eq-eqb x x refl)

pub delta_other : (x y : ℕ) → x ≢ y → delta x y ≡ 0
delta_other x y h = ap bit (ne_eqb x y h)

-- x < k + 1 just where x < k or x ≡ k
pub bit_suc : (x k : ℕ) → bit (ltb x (suc k)) ≡ bit (ltb x k) + delta x k
bit_suc x k = elim (ℕ_discrete x k) [
  | yes e ↦ rw (lt-ltb x (suc k) (omega arith), le-ltb x k (omega arith), eq-eqb x k e)
  | no f ↦ elim (dec_lt x k) [
    | yes h ↦ rw (lt-ltb x (suc k) (omega arith), lt-ltb x k h, ne_eqb x k f)
    | no h ↦ rw (le-ltb x (suc k) (omega arith), le-ltb x k (omega arith), ne_eqb x k f)
  ]
]

-- ---- sums over a list

pub sum_add : (s : List ℕ) (f h : ℕ → ℕ) → sum s (λ e. f e + h e) ≡ sum s f + sum s h
sum_add [] f h = refl
sum_add (e ∷ s) f h = omega (arith, sum_add s f h)

pub sum_zero : (s : List ℕ) (f : ℕ → ℕ) → ((e : ℕ) → f e ≡ 0) → sum s f ≡ 0
sum_zero [] f h = refl
sum_zero (e ∷ s) f h = omega (arith, h e, sum_zero s f h)

pub sum_le : {P : ℕ → Type 0} (s : List ℕ) (f h : ℕ → ℕ) → All P s → ((e : ℕ) → P e → f e ≤ h e) → sum s f ≤ sum s h
sum_le [] f h p l = zero-le
sum_le (e ∷ s) f h p l = omega (arith, l e p.0, sum_le s f h p.1 l)

pub sum_same : {P : ℕ → Type 0} (s : List ℕ) (f h : ℕ → ℕ) → All P s → ((e : ℕ) → P e → f e ≡ h e) → sum s f ≡ sum s h
sum_same [] f h p l = refl
sum_same (e ∷ s) f h p l = ap₂ ◌+◌ (l e p.0) (sum_same s f h p.1 l)

pub sum_even : (s : List ℕ) (f : ℕ → ℕ) → ((e : ℕ) → f e % 2 ≡ 0) → sum s f % 2 ≡ 0
sum_even [] f h = refl
sum_even (e ∷ s) f h = omega (arith, h e, sum_even s f h)

pub sum_snoc : (s : List ℕ) (e : ℕ) (f : ℕ → ℕ) → sum (s ++ (e ∷ [])) f ≡ sum s f + f e
sum_snoc [] e f = omega arith
sum_snoc (x ∷ s) e f = omega (arith, sum_snoc s e f)

pub sum-map : (f : ℕ → ℕ) (s : List ℕ) → sum (map f s) (λ c. c) ≡ sum s f
sum-map f [] = refl
sum-map f (x ∷ s) = omega (arith, sum-map f s)

-- with every weight 1 a list weighs its length
pub sum_ones : (s : List ℕ) → sum s (λ e. 1) ≡ length s
sum_ones [] = refl
sum_ones (e ∷ s) = omega (arith, sum_ones s)

-- ---- properties of every element

pub all_snoc : (P : ℕ → Type 0) (s : List ℕ) (x : ℕ) → All P s → P x → All P (s ++ (x ∷ []))
all_snoc P [] x a p = (p, tt)
all_snoc P (y ∷ s) x a p = (a.0, all_snoc P s x a.1 p)

pub all_map : {P Q : ℕ → Type 0} → ((x : ℕ) → P x → Q x) → (s : List ℕ) → All P s → All Q s
all_map f [] a = tt
all_map f (y ∷ s) a = (f y a.0, all_map f s a.1)

-- ---- lists without repetition

pub distinct_snoc : (s : List ℕ) (v : ℕ) → Distinct s → All (λ u. u ≢ v) s → Distinct (s ++ (v ∷ []))
distinct_snoc [] v o a = (refl, tt)
distinct_snoc (u ∷ s) v o a = (omega (arith, sum_snoc s v (delta u), o.0, delta_other u v a.0), distinct_snoc s v o.1 a.1)

-- a number that is not listed is listed 0 times
pub count_none : (s : List ℕ) (v : ℕ) → All (λ u. u ≢ v) s → sum s (delta v) ≡ 0
count_none [] v a = refl
count_none (u ∷ s) v a = omega (arith, delta_other v u (λ e. a.0 (sym e)), count_none s v a.1)

-- a number is listed at most once
count_once : (s : List ℕ) (v : ℕ) → Distinct s → sum s (λ x. delta x v) ≤ 1
count_once [] v o = omega arith
count_once (u ∷ s) v o = elim (ℕ_discrete u v) [
  | yes e ↦ omega (arith, ap (delta u) (sym e), delta_same u, o.0, sum_same {P = λ x. Unit {0}} s (λ x. delta x v) (delta u) (all-unit s) (λ x t. swap x e))
  | no f ↦ omega (arith, delta_other u v f, count_once s v o.1)
]
  where
    all-unit : (s : List ℕ) → All (λ x. Unit {0}) s
    all-unit [] = tt
    all-unit (x ∷ s) = (tt, all-unit s)

    swap : (x : ℕ) → u ≡ v → delta x v ≡ delta u x
    swap x e = elim (ℕ_discrete u x) [
      | yes q ↦ ap bit (eq-eqb x v (sym q ∙ e)) ∙ sym (ap bit (eq-eqb u x q))
      | no q ↦ delta_other x v (λ z. q (e ∙ sym z)) ∙ sym (delta_other u x q)
    ]

-- so at most k of the listed numbers lie below k
count_below : (s : List ℕ) → Distinct s → (k : ℕ) → sum s (λ x. bit (ltb x k)) ≤ k
count_below s o zero = omega (arith, sum_zero s (λ x. bit (ltb x 0)) (λ x. ap bit (le-ltb x 0 zero-le)))
count_below s o (suc k) = simp bit_suc (omega (arith, sum_add s (λ x. bit (ltb x k)) (λ x. delta x k), count_below s o k, count_once s k o))

pub distinct_length : (s : List ℕ) (n : ℕ) → Distinct s → All (λ x. x < n) s → length s ≤ n
distinct_length s n o a = omega (arith, sum_ones s, sum_same s (λ x. bit (ltb x n)) (λ x. 1) a (λ x h. ap bit (lt-ltb x n h)), count_below s o n)
