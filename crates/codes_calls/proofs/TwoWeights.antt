-- The largest of weights that are one of two. Assumes nothing.
use mathlib.Core.Path.{◌≡◌, refl, sym, ap, ◌∙◌}
use mathlib.Core.Bool.{Bool, true, false, cond, false≢true}
use mathlib.Core.List.{List, [], ◌∷◌, map}
use Prim.Native.Nat.{ℕ, zero, suc, ◌≤◌, ◌<◌}
use native.Mathlib.Omega.{arith}
use lib.ListN.{length, get_or}
use lib.Dec.{T}
use lib.Ieee.{Float, lt}
use Rattle.columns.specs.Places.{zero_float}
use Rattle.weights_calls.specs.Calls.{larger, largest}
use Rattle.weights_calls.proofs.Largest.{unsigned, taken, kept, at_least, zero_unsigned}

absorbs : (m x : Float) → lt m x ≡ false → larger m x ≡ m
absorbs m x e = ap (λ (b : Bool). cond b x m) e

module _ (v w : Float) where
  -- the larger of 0 and v, and of that and w
  abbrev pub first : Float
  first = larger zero_float v

  abbrev pub either : Float
  either = larger first w

  first-sign : T (unsigned first)
  first-sign = taken zero_float zero_unsigned v

  pub first-v : larger first v ≡ first
  first-v = absorbs first v (at_least zero_float zero_unsigned v)

  either-v : larger either v ≡ either
  either-v = absorbs either v (kept first first-sign w v (at_least zero_float zero_unsigned v))

  either-w : larger either w ≡ either
  either-w = absorbs either w (at_least first first-sign w)

  module _ {A : Type 0} (test : A → Bool) where
    abbrev pub weight_of : A → Float
    weight_of x = cond (test x) w v

    stays : (xs : List A) → largest either (map weight_of xs) ≡ either
    unfolding largest
    stays [] = refl
    stays (x ∷ xs) = ap (λ (m : Float). largest m (map weight_of xs)) (go (test x)) ∙ stays xs
      where
        go : (b : Bool) → larger either (cond b w v) ≡ either
        go true = either-w
        go false = either-v

    -- none is w
    none : (xs : List A) (x₀ : A) → ((k : ℕ) → k < length xs → test (get_or xs k x₀) ≡ false) → largest first (map weight_of xs) ≡ first
    unfolding largest
    none [] x₀ h = refl
    none (x ∷ xs) x₀ h =
        ap (λ (b : Bool). largest (larger first (cond b w v)) (map weight_of xs)) (h 0 (omega arith))
        ∙ ap (λ (m : Float). largest m (map weight_of xs)) first-v
        ∙ none xs x₀ (λ k l. h (suc k) (omega arith))

    -- some is w
    some : (xs : List A) (x₀ : A) (k : ℕ) → k < length xs → test (get_or xs k x₀) ≡ true → largest first (map weight_of xs) ≡ either
    unfolding largest
    some [] x₀ k h e = absurd (omega arith)
    some (x ∷ xs) x₀ zero h e = ap (λ (b : Bool). largest (larger first (cond b w v)) (map weight_of xs)) e ∙ stays xs
    some (x ∷ xs) x₀ (suc k) h e = go (test x) (some xs x₀ k (omega arith) e)
      where
        go : (b : Bool) → largest first (map weight_of xs) ≡ either → largest (larger first (cond b w v)) (map weight_of xs) ≡ either
        go true f = stays xs
        go false f = ap (λ (m : Float). largest m (map weight_of xs)) first-v ∙ f

    -- the first is v
    pub all_first : (xs : List A) (x₀ : A) → 1 ≤ length xs → ((k : ℕ) → k < length xs → test (get_or xs k x₀) ≡ false) → largest zero_float (map weight_of xs) ≡ first
    unfolding largest
    all_first [] x₀ one h = absurd (omega arith)
    all_first (x ∷ xs) x₀ one h =
        ap (λ (b : Bool). largest (larger zero_float (cond b w v)) (map weight_of xs)) (h 0 (omega arith)) ∙ none xs x₀ (λ k l. h (suc k) (omega arith))

    pub some-either : (xs : List A) (x₀ : A) → 1 ≤ length xs → test (get_or xs 0 x₀) ≡ false → (k : ℕ) → k < length xs → test (get_or xs k x₀) ≡ true → largest zero_float (map weight_of xs) ≡ either
    unfolding largest
    some-either [] x₀ one h k l e = absurd (omega arith)
    some-either (x ∷ xs) x₀ one h zero l e = absurd (false≢true (sym h ∙ e))
    some-either (x ∷ xs) x₀ one h (suc k) l e =
        ap (λ (b : Bool). largest (larger zero_float (cond b w v)) (map weight_of xs)) h ∙ some xs x₀ k (omega arith) e
