-- The first of the least: that the definition finds it, and the same as a loop keeps it. Assumes nothing.
use mathlib.Core.Path.{◌≡◌, refl, sym, ap, subst}
use mathlib.Core.Bool.{Bool, true, false, cond}
use mathlib.Core.Option.{Option, some, none}
use mathlib.Core.Logic.{◌⊎◌, inl, inr, ◌≢◌}
use Prim.Native.Nat.{ℕ, zero, suc, ◌≤◌, ◌<◌}
use native.Mathlib.Nat.{le_antisymm}
use native.Mathlib.Decide.{ℕ_discrete}
use native.Mathlib.Omega.{arith}
use lib.Dec.{ltb}
use borrow.Author.Tests.{ltb-true, ltb-false, lt-ltb, le-ltb}
use Rattle.engine_walks.specs.Lists.{found_or}
use Rattle.engine_walks.specs.Settling.{lesser, first_least}
use Rattle.engine_walks.specs.Claims.{IsFirst}

-- one more number, the last
last : {n v : ℕ} (P : ℕ → Type 0) → v < suc n → (v < n → P v) → P n → P v
last {n} {v} P h f p = elim (ℕ_discrete v n) [ yes e ↦ subst P (sym e) p | no k ↦ f (omega arith) ]

true_false : {A : Type 0} {b : Bool} → b ≡ true → b ≡ false → A
true_false {b = b} p q = absurd (let z : ◌≡◌ {A = ℕ} 0 1 = cc in omega arith)

module _ (t : ℕ → Bool) (x : ℕ → ℕ) where
  Best : ℕ → ℕ → Type 0
  Best a v = t v ≡ true → (x a ≤ x v) × (x v ≤ x a → a ≤ v)

  pub first-least : (n : ℕ) → IsFirst t x n (first_least t x n)
  unfolding first_least Best
  first-least zero = λ v h. absurd (omega arith)
  first-least (suc n) = go (t n) refl (first_least t x n) (first-least n)
    where
      two : (a : ℕ) → IsFirst t x n (some a) → t n ≡ true → (b : Bool) → ltb (x n) (x a) ≡ b
          → IsFirst t x (suc n) (cond b (some n) (some a))
      two a p e true d = (omega arith, e, λ v h. last (Best n) h (λ l q. omega (arith, p.2 v l q, ltb-true)) (λ q. omega arith))
      two a p e false d = (omega arith, p.1, λ v h. last (Best a) h (p.2 v) (λ q. omega (arith, p.0, ltb-false)))

      go : (b : Bool) → t n ≡ b → (o : Option ℕ) → IsFirst t x n o → IsFirst t x (suc n) (cond b (lesser x n o) o)
      go true e none p = (omega arith, e, λ v h. last (Best n) h (λ l q. true_false q (p v l)) (λ q. omega arith))
      go true e (some a) p = two a p e (ltb (x n) (x a)) refl
      go false e none p = λ v h. last (λ v. t v ≡ false) h (p v) e
      go false e (some a) p = (omega arith, p.1, λ v h. last (Best a) h (p.2 v) (λ q. true_false q e))

  -- and only one number is the first of the least
  pub first-least-one : (n : ℕ) (o : Option ℕ) → IsFirst t x n o → first_least t x n ≡ o
  first-least-one n o p = go (first_least t x n) (first-least n) o p
    where
      go : (q : Option ℕ) → IsFirst t x n q → (o : Option ℕ) → IsFirst t x n o → q ≡ o
      go none p none q = refl
      go none p (some a) q = true_false q.1 (p a q.0)
      go (some a) p none q = true_false p.1 (q a p.0)
      go (some a) p (some b) q =
          let r = p.2 b q.0 q.1 in
          let s = q.2 a p.0 p.1 in
          ap (λ k. some k) (le_antisymm (r.1 s.0) (s.1 r.0))

module _ (t : ℕ → Bool) (x : ℕ → ℕ) (n i best : ℕ) (h : i < n) (inv : best ≡ found_or n (first_least t x i)) where
  pub best-in : best ≢ n → best < i
  best-in f = go (first_least t x i) (first-least t x i) inv
    where
      go : (o : Option ℕ) → IsFirst t x i o → best ≡ found_or n o → best < i
      go none p e = absurd (f e)
      go (some a) p e = omega (arith, p.0)
