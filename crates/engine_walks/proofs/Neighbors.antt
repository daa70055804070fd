-- Offers along a neighbour list are the offers along all edges: an edge that does not end at the taken vertex offers nothing. Assumes nothing.
use mathlib.Core.Path.{◌≡◌, refl, sym, ap, ap₂, ◌∙◌}
use mathlib.Core.Logic.{◌≢◌}
use mathlib.Core.Bool.{Bool, true, false, cond}
use mathlib.Core.List.{List, [], ◌∷◌, ◌++◌}
use Prim.Native.Nat.{ℕ, zero, suc, ◌+◌, ◌<◌}
use native.Mathlib.Omega.{arith}
use lib.ListN.{length, get_or, take}
use lib.Seq.{take-suc}
use lib.Dec.{eqb}
use borrow.Author.Tests.{eqb-true}
use Rattle.engine_walks.specs.Graph.{Graph, end_a, end_b}
use Rattle.engine_walks.specs.Settling.{State, offer, relax_edge, relax, relax_along}

-- edge k, if its end x is a
abbrev pub ends_at : (a x k : ℕ) → List ℕ
ends_at a x k = cond (eqb x a) (k ∷ []) []

-- the neighbour list of a: the numbers of the edges below n that end at a, ascending
unfoldable pub incident : (g : Graph) (a n : ℕ) → List ℕ
incident g a zero = []
incident g a (suc k) = incident g a k ++ (ends_at a (end_a g k) k ++ ends_at a (end_b g k) k)

-- whatever is made in the same way is that list
pub incident_is : (g : Graph) (a : ℕ) (l : ℕ → List ℕ) → l 0 ≡ []
    → ((k : ℕ) → l (suc k) ≡ l k ++ (ends_at a (end_a g k) k ++ ends_at a (end_b g k) k)) → (n : ℕ) → l n ≡ incident g a n
unfolding incident
incident_is g a l p q zero = p
incident_is g a l p q (suc k) = q k ∙ ap (λ s. s ++ (ends_at a (end_a g k) k ++ ends_at a (end_b g k) k)) (incident_is g a l p q k)

module _ (g : Graph) (w : ℕ → ℕ) (a q W : ℕ) where
  along_append : (l m : List ℕ) (s : State) → relax_along g w a q W (l ++ m) s ≡ relax_along g w a q W m (relax_along g w a q W l s)
  unfolding relax_along
  along_append [] m s = refl
  along_append (e ∷ l) m s = along_append l m (relax_edge g w a q W e s)

  -- one more place of the list, as a loop goes through it
  pub along-next : (l : List ℕ) (i : ℕ) (s : State) → i < length l
      → relax_along g w a q W (take (suc i) l) s ≡ relax_edge g w a q W (get_or l i 0) (relax_along g w a q W (take i l) s)
  along-next l i s h =
      ap (λ m. relax_along g w a q W m s) (take-suc l i 0 h) ∙ along_append (take i l) (get_or l i 0 ∷ []) s ∙ one (get_or l i 0) (relax_along g w a q W (take i l) s)
    where
      one : (e : ℕ) (s : State) → relax_along g w a q W (e ∷ []) s ≡ relax_edge g w a q W e s
      one e s = unfold relax_along in refl

  -- one edge whose ends differ: in the list once if it ends at a, else not, and then it offers nothing
  along-edge : (k : ℕ) (s : State) → end_a g k ≢ end_b g k → relax_along g w a q W (ends_at a (end_a g k) k ++ ends_at a (end_b g k) k) s ≡ relax_edge g w a q W k s
  unfolding relax_along relax_edge
  along-edge k s f = go (eqb (end_a g k) a) refl (eqb (end_b g k) a) refl
    where
      edge : Bool → Bool → State → State
      edge b c s = cond b (offer a q (end_b g k) (W + w k) s) (cond c (offer a q (end_a g k) (W + w k) s) s)

      go : (b : Bool) → eqb (end_a g k) a ≡ b → (c : Bool) → eqb (end_b g k) a ≡ c
          → relax_along g w a q W (cond b (k ∷ []) [] ++ cond c (k ∷ []) []) s ≡ edge b c s
      go true d true e = absurd (f (eqb-true (end_a g k) a d ∙ sym (eqb-true (end_b g k) a e)))
      go true d false e = ap₂ (λ b c. edge b c s) d e
      go false d true e = ap₂ (λ b c. edge b c s) d e
      go false d false e = refl

  pub relax-incident : (n : ℕ) (s : State) → ((e : ℕ) → e < n → end_a g e ≢ end_b g e) → relax g w a q W n s ≡ relax_along g w a q W (incident g a n) s
  unfolding relax incident
  relax-incident zero s f = unfold relax_along in refl
  relax-incident (suc k) s f =
      ap (relax_edge g w a q W k) (relax-incident k s (λ e h. f e (omega arith)))
      ∙ sym (along-edge k (relax_along g w a q W (incident g a k) s) (f k (omega arith)))
      ∙ sym (along_append (incident g a k) (ends_at a (end_a g k) k ++ ends_at a (end_b g k) k) s)
