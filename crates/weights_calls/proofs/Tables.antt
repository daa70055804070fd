-- A table of probabilities with what a function gives for them: reading a place, and storing in one. Assumes nothing.
use mathlib.Core.Path.{◌≡◌, refl, sym, ap, ◌∙◌}
use mathlib.Core.List.{List, [], ◌∷◌, map}
use Prim.Native.Nat.{ℕ, zero, suc, ◌<◌}
use native.Mathlib.Omega.{arith}
use lib.ListN.{length, get_or, set, length-set, replicate, length-replicate}
use lib.Ieee.{Float}
use Rattle.weights_calls.specs.Steps.{places, Known}

map-set : {A : Type 0} (f : Float → A) (l : List Float) (i : ℕ) (x : Float) → map f (set l i x) ≡ set (map f l) i (f x)
map-set f [] i x = refl
map-set f (y ∷ l) zero x = refl
map-set f (y ∷ l) (suc i) x = ap (λ r. f y ∷ r) (map-set f l i x)

map_replicate : {A : Type 0} (f : Float → A) (n : ℕ) (x : Float) → replicate n (f x) ≡ map f (replicate n x)
map_replicate f zero x = refl
map_replicate f (suc n) x = ap (λ r. f x ∷ r) (map_replicate f n x)

map_at : {A : Type 0} (f : Float → A) (l : List Float) (i : ℕ) (d : A) (e : Float) → i < length l → get_or (map f l) i d ≡ f (get_or l i e)
map_at f [] i d e h = absurd (omega arith)
map_at f (y ∷ l) zero d e h = refl
map_at f (y ∷ l) (suc i) d e h = map_at f l i d e (omega arith)

module _ {A : Type 0} (f : Float → A) where
  -- one probability everywhere
  pub one_known : (x : Float) (y : A) → y ≡ f x → Known f (replicate places x) (replicate places y)
  one_known x y e = record { room = length-replicate places x; right = ap (λ z. replicate places z) e ∙ map_replicate f places x }

  module _ (ps : List Float) (values : List A) (k : Known f ps values) where
    pub known_at : (i : ℕ) (d : A) (e : Float) → i < places → get_or values i d ≡ f (get_or ps i e)
    known_at i d e h = ap (λ l. get_or l i d) k.right ∙ map_at f ps i d e (omega (arith, k.room))

    pub known-set : (i : ℕ) (x : Float) (y : A) → y ≡ f x → Known f (set ps i x) (set values i y)
    known-set i x y e =
        record { room = (simp length-set) ∙ k.room; right = (λ j. set (k.right j) i (e j)) ∙ sym (map-set f ps i x) }
