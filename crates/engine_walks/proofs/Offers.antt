-- Offers along the edges, one by one, make a turn as `Takes` has it: whatever the tie rule, of which only `Offered` is used. Assumes nothing.
use mathlib.Core.Path.{◌≡◌, refl, sym, ap, ◌∙◌, subst, subst₂}
use mathlib.Core.Logic.{◌⊎◌, inl, inr, ◌≢◌}
use Prim.Native.Nat.{ℕ, suc, ◌+◌, ◌≤◌, ◌<◌}
use native.Mathlib.Decide.{ℕ_discrete}
use native.Mathlib.Omega.{arith}
use lib.ListN.{length}
use lib.Seq.{get_or-set_same, get_or-set_other}
use Rattle.engine_walks.specs.Graph.{Graph, edges, Joins}
use Rattle.engine_walks.specs.Settling.{State, status_at, weight_at, previous_at, mark}
use Rattle.engine_walks.proofs.LeastWeights.{Keeps, Takes, Outcome, same, new}

-- u, which is not taken, now waits with (k, a), and had no less; or it waits as it did, with no more than k
abbrev pub Waits : (σ : State) (a u k : ℕ) (σ' : State) → Type 0
Waits σ a u k σ' =
    ((status_at σ' u ≡ 1) × (weight_at σ' u ≡ k) × (previous_at σ' u ≡ a) × (status_at σ u ≡ 1 → k ≤ weight_at σ u))
    ⊎ ((status_at σ u ≡ 1) × Keeps σ σ' u × (weight_at σ u ≤ k))

-- u is offered the weight k by way of a: all that is used of an offer
pub record Offered (σ : State) (a u k : ℕ) (σ' : State) : Type 0 where
  pub far : (v : ℕ) → v ≢ u → Keeps σ σ' v
  pub done : status_at σ u ≡ 2 → Keeps σ σ' u
  pub chosen : status_at σ u ≤ 1 → Waits σ a u k σ'

-- a was marked as taken with weight W, which gave σ, and the edges below n have been relaxed
pub record Relaxed (g : Graph) (w : ℕ → ℕ) (a W n : ℕ) (σ σ' : State) : Type 0 where
  pub kept : (v : ℕ) → status_at σ v ≡ 2 → Keeps σ σ' v
  pub other : (v : ℕ) → status_at σ v ≤ 1 → Outcome g w a W n v σ σ'
  pub relaxed : (e v : ℕ) → e < n → Joins g e a v → status_at σ v ≤ 1 → (1 ≤ status_at σ' v) × (weight_at σ' v ≤ W + w e)

module _ {g : Graph} {w : ℕ → ℕ} {a W n v : ℕ} {σ σ' : State} where
  more : Outcome g w a W n v σ σ' → Outcome g w a W (suc n) v σ σ'
  more (same p) = same p
  more (new e h j p q r z) = new e (omega arith) j p q r z

  pub outcome-open : Outcome g w a W n v σ σ' → status_at σ v ≤ 1 → status_at σ' v ≤ 1
  outcome-open (same p) f = omega arith
  outcome-open (new e h j p q r z) f = omega arith

  -- nothing more happens to v
  outcome-same : {σ'' : State} → Keeps σ' σ'' v → Outcome g w a W n v σ σ' → Outcome g w a W (suc n) v σ σ''
  outcome-same k (same p) = same (omega arith)
  outcome-same k (new e h j p q r z) = new e (omega arith) j (omega arith) (omega arith) (λ b. omega (arith, r b)) (omega arith)

  -- a vertex that is not taken is offered W + w n over the edge n
  outcome-offer : {σ'' : State} → Joins g n a v → Waits σ' a v (W + w n) σ'' → Outcome g w a W n v σ σ' → Outcome g w a W (suc n) v σ σ''
  outcome-offer j (inr c) f = outcome-same c.1 f
  outcome-offer j (inl c) (same q) = new n (omega arith) j c.0 c.1 (λ h. omega (arith, c.3 (omega arith))) c.2
  outcome-offer j (inl c) (new e h i q r k z) = new n (omega arith) j c.0 c.1 (λ h. omega (arith, c.3 q, k h)) c.2

module _ {g : Graph} {w : ℕ → ℕ} {a W : ℕ} {σ : State} where
  pub relaxed-none : Relaxed g w a W 0 σ σ
  relaxed-none = record { kept = λ v p. (refl, refl, refl); other = λ v f. same (refl, refl, refl); relaxed = λ e v h j f. absurd (omega arith) }

  module _ {n : ℕ} {σ' : State} (r : Relaxed g w a W n σ σ') where
    -- an edge that does not end at a
    pub relaxed-skip : ((v : ℕ) → ¬ Joins g n a v) → Relaxed g w a W (suc n) σ σ'
    relaxed-skip none = record {
      kept = r.kept;
      other = λ v f. more (r.other v f);
      relaxed = λ e v h j f. elim (ℕ_discrete e n) [
        | yes q ↦ absurd (none v (subst (λ x. Joins g x a v) q j))
        | no q ↦ r.relaxed e v (omega arith) j f
      ];
    }

    -- an edge from a to u
    module _ {u : ℕ} {σ'' : State} (j : Joins g n a u) (only : (v : ℕ) → Joins g n a v → v ≡ u) (o : Offered σ' a u (W + w n) σ'') where
      -- the new weight of u is at most the offer, and at most the old one if there is one
      low : status_at σ u ≤ 1 → (1 ≤ status_at σ'' u) × (weight_at σ'' u ≤ W + w n) × (1 ≤ status_at σ' u → weight_at σ'' u ≤ weight_at σ' u)
      low f = let l = outcome-open (r.other u f) f in
          elim (o.chosen l) [
            | inl c ↦ (omega (arith, c), omega (arith, c), λ h. omega (arith, c, c.3 (omega arith)))
            | inr c ↦ (omega (arith, c), omega (arith, c), λ h. omega (arith, c))
          ]

      pub relaxed-edge : Relaxed g w a W (suc n) σ σ''
      relaxed-edge = record {
        kept = λ v p. elim (ℕ_discrete v u) [
          | yes e ↦ subst (λ z. status_at σ z ≡ 2 → Keeps σ σ'' z) (sym e) (λ q. let k = r.kept u q in omega (arith, k, o.done (k.0 ∙ q))) p
          | no f ↦ omega (arith, r.kept v p, o.far v f)
        ];
        other = λ v f. elim (ℕ_discrete v u) [
          | yes e ↦ subst (λ z. status_at σ z ≤ 1 → Outcome g w a W (suc n) z σ σ'') (sym e)
              (λ q. outcome-offer j (o.chosen (outcome-open (r.other u q) q)) (r.other u q)) f
          | no q ↦ outcome-same (o.far v q) (r.other v f)
        ];
        relaxed = λ e v h i f. elim (ℕ_discrete v u) [
          | yes z ↦ elim (ℕ_discrete e n) [
            | yes q ↦ subst₂ (λ x y. status_at σ x ≤ 1 → (1 ≤ status_at σ'' x) × (weight_at σ'' x ≤ W + w y)) (sym z) (sym q)
                (λ k. omega (arith, low k)) f
            | no q ↦ subst (λ x. status_at σ x ≤ 1 → Joins g e a x → (1 ≤ status_at σ'' x) × (weight_at σ'' x ≤ W + w e)) (sym z)
                (λ k b. let c = r.relaxed e u (omega arith) b k in omega (arith, low k, (low k).2 c.0)) f i
          ]
          | no z ↦ elim (ℕ_discrete e n) [
            | yes q ↦ absurd (z (only v (subst (λ x. Joins g x a v) q i)))
            | no q ↦ omega (arith, r.relaxed e v (omega arith) i f, o.far v z)
          ]
        ];
      }

-- taking a: it is marked, then every edge is relaxed
pub takes : {g : Graph} {w : ℕ → ℕ} {a : ℕ} {σ σ' : State} → a < length σ.status → status_at σ a ≡ 1
    → ((v : ℕ) → status_at σ v ≡ 1 → weight_at σ a ≤ weight_at σ v) → Relaxed g w a (weight_at σ a) (edges g) (mark σ a) σ' → Takes g w σ a σ'
takes {g} {w} {a} {σ} {σ'} b p f r =
    let at : status_at (mark σ a) a ≡ 2 = get_or-set_same σ.status a 2 0 b in
    let off : (v : ℕ) → v ≢ a → status_at (mark σ a) v ≡ status_at σ v = λ v k. get_or-set_other σ.status a v 2 0 k in
    record {
      waits = p;
      first = f;
      took = omega (arith, r.kept a at);
      kept = λ v q. let k : v ≢ a = λ e. omega (arith, ap (status_at σ) e) in omega (arith, r.kept v (off v k ∙ q), off v k);
      other = λ v q l. unmark (off v q) (r.other v (omega (arith, off v q)));
      relaxed = λ e v h j q l. r.relaxed e v h j (omega (arith, off v q));
    }
  where
    unmark : {v : ℕ} → status_at (mark σ a) v ≡ status_at σ v → Outcome g w a (weight_at σ a) (edges g) v (mark σ a) σ'
        → Outcome g w a (weight_at σ a) (edges g) v σ σ'
    unmark e (same k) = same (omega arith)
    unmark e (new x h j p q k z) = new x h j p q (λ b. k (omega arith)) z
