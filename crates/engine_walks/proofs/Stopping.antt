-- The end that stops a search is the last vertex taken, so no vertex that was taken weighs more. Assumes nothing.
use mathlib.Core.Path.{◌≡◌, refl, ap, ◌∙◌}
use mathlib.Core.Logic.{⊎_elim, ◌≢◌}
use mathlib.Core.Bool.{Bool, true, false}
use mathlib.Core.Option.{Option, some}
use Prim.Native.Nat.{ℕ, ◌≤◌}
use native.Mathlib.Decide.{ℕ_discrete}
use native.Mathlib.Omega.{arith}
use borrow.Author.Tests.{eq-eqb}
use Rattle.engine_walks.specs.Graph.{Graph, GraphInRange}
use Rattle.engine_walks.specs.Settling.{State, status_at, weight_at, stopped, settle}
use Rattle.engine_walks.proofs.LeastWeights.{Takes, Inv}
use Rattle.engine_walks.proofs.Offers.{outcome-open}
use Rattle.engine_walks.proofs.Turns.{Sources, start-each, after-turns}

-- once the end was taken, no vertex that was taken weighs more
abbrev EndLast : (source : ℕ → Bool) (end : Option ℕ) → State → Type 0
EndLast source end s = (b v : ℕ) → end ≡ some b → source b ≢ true → status_at s b ≡ 2 → status_at s v ≡ 2 → weight_at s v ≤ weight_at s b

-- an end that is no source stops the search once it was taken
stops : (source : ℕ → Bool) (end : Option ℕ) (b : ℕ) (s : State) → end ≡ some b → source b ≢ true → status_at s b ≡ 2 → stopped source end s ≡ true
unfolding stopped
stops source end b s q f p = ap (λ o. stopped source o s) q ∙ go (source b) refl
  where
    go : (x : Bool) → source b ≡ x → stopped source (some b) s ≡ true
    go true e = absurd (f e)
    go false e = simp (e, eq-eqb (status_at s b) 2 p)

module _ {g : Graph} {w : ℕ → ℕ} {Source : ℕ → Type 0} {σ σ' : State} {a : ℕ} (i : Inv g w Source σ) (t : Takes g w σ a σ') where
  -- of the taken vertices only a was not taken before the turn
  taken-before : (v : ℕ) → v ≢ a → status_at σ' v ≡ 2 → status_at σ v ≡ 2
  taken-before v f p = elim (ℕ_discrete (status_at σ v) 2) [
    | yes q ↦ q
    | no q ↦ let l : status_at σ v ≤ 1 = omega (arith, i.small v) in absurd (omega (arith, outcome-open (t.other v f l) l))
  ]

  last_step : (source : ℕ → Bool) (end : Option ℕ) → stopped source end σ ≡ false → EndLast source end σ'
  last_step source end d b v e f p q = elim (ℕ_discrete b a) [
    | yes z ↦ elim (ℕ_discrete v a) [
      | yes y ↦ omega (arith, ap (weight_at σ') z, ap (weight_at σ') y)
      | no y ↦ let r = taken-before v y q in omega (arith, ap (weight_at σ') z, t.took, t.kept v r, i.order v a r t.waits)
    ]
    | no z ↦ let s = stops source end b σ e f (taken-before b z p) in absurd (let x : ◌≡◌ {A = ℕ} 0 1 = cc in omega arith)
  ]

module _ {g : Graph} (ok : GraphInRange g) (w : ℕ → ℕ) {source : ℕ → Bool} {Source : ℕ → Type 0} (n : Sources g source Source) (end : Option ℕ) where
  pub end-last : (k : ℕ) → EndLast source end (settle g w source end k)
  end-last k = (after-turns ok w n end (λ k s. EndLast source end s)
      (λ b v e f p q. absurd (⊎_elim (λ z. omega arith) (λ z. omega arith) (start-each n b)))
      (λ k s p. p) (λ k a s s' i d t p. last_step i.inv t source end d) k).1
