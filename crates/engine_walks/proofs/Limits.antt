-- Sums stay within the number of vertices times the greatest weight. Assumes nothing.
use mathlib.Core.Path.{◌≡◌, sym, ap, ◌∙◌}
use mathlib.Core.Logic.{inl, inr, ⊎_elim, ◌≢◌}
use mathlib.Core.Bool.{Bool}
use mathlib.Core.List.{List, ◌∷◌}
use mathlib.Core.Option.{Option}
use Prim.Native.Nat.{ℕ, zero, suc, ◌+◌, ◌-◌, ◌*◌, ◌≤◌, ◌<◌, zero-le}
use native.Mathlib.Nat.{mul-le-mul_right}
use native.Mathlib.Decide.{ℕ_discrete}
use native.Mathlib.Omega.{arith}
use lib.ListN.{length}
use Rattle.columns.specs.Limits.{weight_limit}
use Rattle.engine_walks.specs.Lists.{sum, All, Distinct}
use Rattle.engine_walks.specs.Graph.{Graph, edges, GraphInRange}
use Rattle.engine_walks.specs.Settling.{State, status_at, weight_at, settle}
use Rattle.engine_walks.specs.Claims.{Route, arrived, onto, SumsAtMost, SumsFit}
use Rattle.engine_walks.proofs.Sums.{distinct_length}
use Rattle.engine_walks.proofs.LeastWeights.{Takes, Outcome, same, new}
use Rattle.engine_walks.proofs.Turns.{test_sources, start-each, start_weight, after-turns}

-- after k turns: what waits weighs at most k limits, what is taken one limit less
pub record Bounded (limit k : ℕ) (σ : State) : Type 0 where
  pub waiting : (v : ℕ) → status_at σ v ≡ 1 → weight_at σ v ≤ k * limit
  pub taken : (v : ℕ) → status_at σ v ≡ 2 → weight_at σ v + limit ≤ k * limit

bounded_step : {g : Graph} {w : ℕ → ℕ} {σ σ' : State} {x limit k : ℕ} → ((e : ℕ) → e < edges g → w e ≤ limit)
    → ((v : ℕ) → status_at σ v ≤ 2) → Takes g w σ x σ' → Bounded limit k σ → Bounded limit (suc k) σ'
bounded_step {g} {w} {σ} {σ'} {x} {limit} {k} m small t b = record {
  waiting = λ v p. elim (ℕ_discrete v x) [
    | yes e ↦ absurd (omega (arith, ap (status_at σ') e, t.took))
    | no f ↦ elim (ℕ_discrete (status_at σ v) 2) [
      | yes q ↦ absurd (omega (arith, t.kept v q))
      | no q ↦ outcome (t.other v f (omega (arith, small v))) p
    ]
  ];
  taken = λ v p. elim (ℕ_discrete v x) [
    | yes e ↦ omega (arith, ap (weight_at σ') e, t.took, b.waiting x t.waits)
    | no f ↦ elim (ℕ_discrete (status_at σ v) 2) [
      | yes q ↦ omega (arith, t.kept v q, b.taken v q)
      | no q ↦ absurd (open-still (t.other v f (omega (arith, small v))) p q)
    ]
  ];
}
  where
    outcome : {v : ℕ} → Outcome g w x (weight_at σ x) (edges g) v σ σ' → status_at σ' v ≡ 1 → weight_at σ' v ≤ suc k * limit
    outcome {v} (same z) p = omega (arith, z, b.waiting v (omega (arith, z)))
    outcome (new e l j s q r z) p = omega (arith, q, m e l, b.waiting x t.waits)

    open-still : {v : ℕ} → Outcome g w x (weight_at σ x) (edges g) v σ σ' → status_at σ' v ≡ 2 → status_at σ v ≢ 2 → ⊥
    open-still (same z) p f = f (sym z.0 ∙ p)
    open-still (new e l j s q r z) p f = omega arith

pub bounded_settle : {g : Graph} → GraphInRange g → (w : ℕ → ℕ) {limit : ℕ} → ((e : ℕ) → e < edges g → w e ≤ limit)
    → (source : ℕ → Bool) (end : Option ℕ) (k : ℕ) → Bounded limit k (settle g w source end k)
bounded_settle {g} ok w {limit} m source end k = (after-turns ok w (test_sources g source) end (Bounded limit)
    (record {
      waiting = λ v p. omega (arith, start_weight g source v);
      taken = λ v p. absurd (⊎_elim (λ e. omega arith) (λ e. omega arith) (start-each (test_sources g source) v));
    })
    (λ k s b. record { waiting = λ v p. omega (arith, b.waiting v p); taken = λ v p. omega (arith, b.taken v p) })
    (λ k x s s' i f t b. bounded_step m i.inv.small t b) k).1

-- ---- a walk that meets no vertex twice

route_inside : {g : Graph} {w : ℕ → ℕ} {x y : ℕ} {vs cs : List ℕ} → GraphInRange g → Route g w x vs cs y → All (λ v. v < g.vertices) vs
route_inside ok arrived = tt
route_inside ok (onto e h (inl j) q r) = (omega (arith, ok.b_in e h, j.1), route_inside ok r)
route_inside ok (onto e h (inr j) q r) = (omega (arith, ok.a_in e h, j.0), route_inside ok r)

route_weight : {g : Graph} {w : ℕ → ℕ} {x y limit : ℕ} {vs cs : List ℕ} → ((e : ℕ) → e < edges g → w e ≤ limit)
    → Route g w x vs cs y → sum cs (λ c. c) ≤ length vs * limit
route_weight m arrived = zero-le
route_weight m (onto e h j q r) = omega (arith, route_weight m r, m e h)

module _ {g : Graph} (ok : GraphInRange g) (w : ℕ → ℕ) where
  pub sums-within : (limit : ℕ) → ((e : ℕ) → e < edges g → w e ≤ limit) → SumsAtMost g w ((g.vertices - 1) * limit) (g.vertices * limit)
  sums-within limit m = record {
    along_walk = λ x y vs cs h r o. omega (arith, route_weight m r, mul-le-mul_right limit (short x vs h o (route_inside ok r)));
    taken = λ source end k v h p. omega (arith, (bounded_settle ok w m source end k).taken v p, mul-le-mul_right limit h, less_one g.vertices);
    waiting = λ source end k v h p. omega (arith, (bounded_settle ok w m source end k).waiting v p, mul-le-mul_right limit h, less_one g.vertices);
    offers = λ source end k v e h l p. omega (arith, (bounded_settle ok w m source end k).waiting v p, mul-le-mul_right limit h, m e l);
  }
    where
      less_one : (n : ℕ) → n * limit ≤ (n - 1) * limit + limit
      less_one zero = omega arith
      less_one (suc n) = let e : suc n - 1 ≡ n = omega arith in rw e (omega arith)

      short : (x : ℕ) (vs : List ℕ) → x < g.vertices → Distinct (x ∷ vs) → All (λ v. v < g.vertices) vs → length vs ≤ g.vertices - 1
      short x vs h o a = omega (arith, distinct_length (x ∷ vs) g.vertices o (h, a))

  -- a wider limit
  sums-widen : {k o k' o' : ℕ} → k ≤ k' → o ≤ o' → SumsAtMost g w k o → SumsAtMost g w k' o'
  sums-widen l m s = record {
    along_walk = λ x y vs cs h r d. omega (arith, s.along_walk x y vs cs h r d);
    taken = λ source end k v h p. omega (arith, s.taken source end k v h p);
    waiting = λ source end k v h p. omega (arith, s.waiting source end k v h p);
    offers = λ source end k v e h l p. omega (arith, s.offers source end k v e h l p);
  }

pub sums_fit : SumsFit
sums_fit g w ok = (sums-within ok w, λ h m. (sums-widen ok w (omega arith) (omega arith) (sums-within ok w weight_limit m), omega arith))
