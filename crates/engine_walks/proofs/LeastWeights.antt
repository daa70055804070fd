-- Why settling gives least weights, whatever the tie rule. `Inv` is what every state keeps; `Takes` is what a turn does that takes a waiting vertex
-- of least weight, with any choice among equals. Assumes nothing.
use mathlib.Core.Path.{◌≡◌, sym, ap, ◌∙◌, subst}
use mathlib.Core.Logic.{◌≢◌}
use mathlib.Core.List.{List, [], ◌∷◌, ◌++◌}
use Prim.Native.Nat.{ℕ, ◌+◌, ◌≤◌, ◌<◌}
use native.Mathlib.Decide.{ℕ_discrete}
use native.Mathlib.Omega.{arith}
use Rattle.engine_walks.specs.Lists.{sum}
use Rattle.engine_walks.specs.Graph.{Graph, edges, Joins, Walk, stay, step, LeastWeight}
use Rattle.engine_walks.specs.Settling.{State, status_at, weight_at, previous_at}
use Rattle.engine_walks.proofs.Sums.{sum_snoc}

-- v is reached from a source by a walk of weight k
abbrev pub Reached : (g : Graph) (w : ℕ → ℕ) (Source : ℕ → Type 0) → ℕ → ℕ → Type 0
Reached g w Source v k = (x : ℕ) × (s : List ℕ) × Source x × Walk g x s v × (sum s w ≡ k)

-- v has the same status, weight and previous vertex in both states
abbrev pub Keeps : State → State → ℕ → Type 0
Keeps σ σ' v = (status_at σ' v ≡ status_at σ v) × (weight_at σ' v ≡ weight_at σ v) × (previous_at σ' v ≡ previous_at σ v)

-- what every state of a settling keeps: a source waits or was taken, with weight 0; each weight is that of a walk; what is taken weighs no more than
-- what waits; an edge from a taken vertex leads to one that waits or was taken, with no more than the weight over that edge
pub record Inv (g : Graph) (w : ℕ → ℕ) (Source : ℕ → Type 0) (σ : State) : Type 0 where
  pub small : (v : ℕ) → status_at σ v ≤ 2
  pub source : (v : ℕ) → Source v → (1 ≤ status_at σ v) × (weight_at σ v ≡ 0)
  pub found : (v : ℕ) → 1 ≤ status_at σ v → Reached g w Source v (weight_at σ v)
  pub order : (u v : ℕ) → status_at σ u ≡ 2 → status_at σ v ≡ 1 → weight_at σ u ≤ weight_at σ v
  pub closed : (e x y : ℕ) → e < edges g → Joins g e x y → status_at σ x ≡ 2 → (1 ≤ status_at σ y) × (weight_at σ y ≤ weight_at σ x + w e)

-- what the edges below n, with a taken at weight W, do to a vertex v that is not taken: nothing, or it waits with a new weight, not above its own
pub data Outcome (g : Graph) (w : ℕ → ℕ) (a W n v : ℕ) (σ σ' : State) : Type 0 where
  same : Keeps σ σ' v → Outcome g w a W n v σ σ'
  new : (e : ℕ) → e < n → Joins g e a v → status_at σ' v ≡ 1 → weight_at σ' v ≡ W + w e
      → (status_at σ v ≡ 1 → weight_at σ' v ≤ weight_at σ v) → previous_at σ' v ≡ a → Outcome g w a W n v σ σ'

-- vertex a is taken
pub record Takes (g : Graph) (w : ℕ → ℕ) (σ : State) (a : ℕ) (σ' : State) : Type 0 where
  pub waits : status_at σ a ≡ 1
  pub first : (v : ℕ) → status_at σ v ≡ 1 → weight_at σ a ≤ weight_at σ v
  pub took : (status_at σ' a ≡ 2) × (weight_at σ' a ≡ weight_at σ a) × (previous_at σ' a ≡ previous_at σ a)
  pub kept : (v : ℕ) → status_at σ v ≡ 2 → Keeps σ σ' v
  pub other : (v : ℕ) → v ≢ a → status_at σ v ≤ 1 → Outcome g w a (weight_at σ a) (edges g) v σ σ'
  pub relaxed : (e v : ℕ) → e < edges g → Joins g e a v → v ≢ a → status_at σ v ≤ 1
      → (1 ≤ status_at σ' v) × (weight_at σ' v ≤ weight_at σ a + w e)

-- a walk, and one step more at its end
pub snoc : {g : Graph} {x y z e : ℕ} {s : List ℕ} → Walk g x s y → e < edges g → Joins g e y z → Walk g x (s ++ (e ∷ [])) z
snoc stay h j = step h j stay
snoc (step k i p) h j = step k i (snoc p h j)

module _ {g : Graph} {w : ℕ → ℕ} {Source : ℕ → Type 0} {σ : State} (i : Inv g w Source σ) where
  -- from a taken vertex to a taken vertex
  taken-to-taken : {x v : ℕ} {s : List ℕ} → Walk g x s v → status_at σ x ≡ 2 → status_at σ v ≡ 2 → weight_at σ v ≤ weight_at σ x + sum s w
  taken-to-taken stay p q = omega arith
  taken-to-taken {v = v} (step {x = x} {y = y} {e = e} h j r) p q = elim (ℕ_discrete (status_at σ y) 2) [
    | yes t ↦ omega (arith, taken-to-taken r t q, i.closed e x y h j p)
    | no f ↦ omega (arith, i.small y, i.closed e x y h j p, i.order v y q (omega (arith, i.small y, i.closed e x y h j p)))
  ]

  -- a taken vertex's weight is the least
  pub taken-no-lighter : {x v : ℕ} {s : List ℕ} → Source x → Walk g x s v → status_at σ v ≡ 2 → weight_at σ v ≤ sum s w
  taken-no-lighter {x} {v} a r q = elim (ℕ_discrete (status_at σ x) 2) [
    | yes t ↦ omega (arith, taken-to-taken r t q, i.source x a)
    | no f ↦ omega (arith, i.source x a, i.order v x q (omega (arith, i.small x, i.source x a)))
  ]

  pub least : (v : ℕ) → status_at σ v ≡ 2 → LeastWeight g w Source v (weight_at σ v)
  least v q = record { some_walk = i.found v (omega arith); no_lighter = λ x s a r. taken-no-lighter a r q }

  -- a walk to a vertex that is not taken weighs no less than a taken vertex b: it leaves the taken vertices for one that waits
  module _ (b : ℕ) (t : status_at σ b ≡ 2) where
    taken-to-open : {x v : ℕ} {s : List ℕ} → Walk g x s v → status_at σ x ≡ 2 → status_at σ v ≢ 2 → weight_at σ b ≤ weight_at σ x + sum s w
    taken-to-open stay p f = absurd (f p)
    taken-to-open (step {x = x} {y = y} {e = e} h j r) p f = elim (ℕ_discrete (status_at σ y) 2) [
      | yes q ↦ omega (arith, taken-to-open r q f, i.closed e x y h j p)
      | no q ↦ omega (arith, i.closed e x y h j p, i.order b y t (omega (arith, i.small y, i.closed e x y h j p)))
    ]

    pub open-no-lighter : {x v : ℕ} {s : List ℕ} → Source x → Walk g x s v → status_at σ v ≢ 2 → weight_at σ b ≤ sum s w
    open-no-lighter {x} a r f = elim (ℕ_discrete (status_at σ x) 2) [
      | yes q ↦ omega (arith, taken-to-open r q f, i.source x a)
      | no q ↦ omega (arith, i.source x a, i.order b x t (omega (arith, i.small x, i.source x a)))
    ]

  -- where nothing waits, a walk from a source leads to a taken vertex
  module _ (done : (v : ℕ) → status_at σ v ≢ 1) where
    taken-on : {x v : ℕ} {s : List ℕ} → Walk g x s v → status_at σ x ≡ 2 → status_at σ v ≡ 2
    taken-on stay q = q
    taken-on (step {x = x} {y = y} {e = e} h j r) q = taken-on r (omega (arith, i.small y, done y, i.closed e x y h j q))

    pub all-taken : {x v : ℕ} {s : List ℕ} → Source x → Walk g x s v → status_at σ v ≡ 2
    all-taken {x} a r = taken-on r (omega (arith, i.small x, done x, i.source x a))

-- a turn keeps the invariant
module _ {g : Graph} {w : ℕ → ℕ} {Source : ℕ → Type 0} {σ : State} (i : Inv g w Source σ) {a : ℕ} {σ' : State} (t : Takes g w σ a σ') where
  -- the kinds of vertex after the turn: taken before; taken now; not taken
  data Now (v : ℕ) : Type 0 where
    old : status_at σ v ≡ 2 → Keeps σ σ' v → Now v
    now : v ≡ a → status_at σ' v ≡ 2 → weight_at σ' v ≡ weight_at σ v → weight_at σ v ≡ weight_at σ a → Now v
    not : v ≢ a → status_at σ v ≤ 1 → Outcome g w a (weight_at σ a) (edges g) v σ σ' → Now v

  kind : (v : ℕ) → Now v
  kind v = elim (ℕ_discrete v a) [
    | yes e ↦ now e (ap (status_at σ') e ∙ t.took.0) (ap (weight_at σ') e ∙ t.took.1 ∙ sym (ap (weight_at σ) e)) (ap (weight_at σ) e)
    | no f ↦ elim (ℕ_discrete (status_at σ v) 2) [
      | yes q ↦ old q (t.kept v q)
      | no k ↦ let l : status_at σ v ≤ 1 = omega (arith, i.small v) in not f l (t.other v f l)
    ]
  ]

  small' : (v : ℕ) → Now v → status_at σ' v ≤ 2
  small' v (old p q) = omega arith
  small' v (now p q r k) = omega arith
  small' v (not f k (same p)) = omega (arith, i.small v)
  small' v (not f k (new e h j p q r z)) = omega arith

  source' : (v : ℕ) → Now v → Source v → (1 ≤ status_at σ' v) × (weight_at σ' v ≡ 0)
  source' v (old p q) b = omega (arith, i.source v b)
  source' v (now p q r k) b = omega (arith, i.source v b)
  source' v (not f k (same p)) b = omega (arith, i.source v b)
  source' v (not f k (new e h j p q r z)) b = omega (arith, i.source v b, i.small v, r (omega (arith, i.source v b, i.small v)))

  found' : (v : ℕ) → Now v → 1 ≤ status_at σ' v → Reached g w Source v (weight_at σ' v)
  found' v (old p q) b = rw q.1 (i.found v (omega arith))
  found' v (now p q r k) b = rw r (i.found v (omega (arith, t.waits, ap (status_at σ) p)))
  found' v (not f k (same p)) b = rw p.1 (i.found v (omega arith))
  found' v (not f k (new e h j p q r z)) b = let y = i.found a (omega (arith, t.waits)) in
      (y.0, y.1 ++ (e ∷ []), y.2, snoc y.3 h j, sum_snoc y.1 e w ∙ ap (λ x. x + w e) y.4 ∙ sym q)

  -- what is taken weighs at most what a does, what waits at least that
  taken-low : (v : ℕ) → Now v → status_at σ' v ≡ 2 → weight_at σ' v ≤ weight_at σ a
  taken-low v (old p q) b = omega (arith, i.order v a p t.waits)
  taken-low v (now p q r k) b = omega arith
  taken-low v (not f k (same p)) b = omega arith
  taken-low v (not f k (new e h j p q r z)) b = omega arith

  waiting-high : (v : ℕ) → Now v → status_at σ' v ≡ 1 → weight_at σ a ≤ weight_at σ' v
  waiting-high v (old p q) b = omega arith
  waiting-high v (now p q r k) b = omega arith
  waiting-high v (not f k (same p)) b = omega (arith, t.first v (omega arith))
  waiting-high v (not f k (new e h j p q r z)) b = omega arith

  falls : (v : ℕ) → Now v → 1 ≤ status_at σ v → (1 ≤ status_at σ' v) × (weight_at σ' v ≤ weight_at σ v)
  falls v (old p q) b = omega arith
  falls v (now p q r k) b = omega arith
  falls v (not f k (same p)) b = omega arith
  falls v (not f k (new e h j p q r z)) b = omega (arith, r (omega (arith, i.small v)))

  next-to : (e v : ℕ) → e < edges g → Joins g e a v → Now v → (1 ≤ status_at σ' v) × (weight_at σ' v ≤ weight_at σ a + w e)
  next-to e v h j (old p q) = omega (arith, i.order v a p t.waits)
  next-to e v h j (now p q r k) = omega arith
  next-to e v h j (not f k z) = t.relaxed e v h j f k

  closed' : (e x y : ℕ) → e < edges g → Joins g e x y → Now x → status_at σ' x ≡ 2
      → (1 ≤ status_at σ' y) × (weight_at σ' y ≤ weight_at σ' x + w e)
  closed' e x y h j (old p q) b = let c = i.closed e x y h j p in omega (arith, falls y (kind y) c.0)
  closed' e x y h j (now p q r k) b = omega (arith, next-to e y h (subst (λ z. Joins g e z y) p j) (kind y))
  closed' e x y h j (not f k (same p)) b = omega arith
  closed' e x y h j (not f k (new e' h' j' p q r z)) b = omega arith

  pub keeps : Inv g w Source σ'
  keeps = record {
    small = λ v. small' v (kind v);
    source = λ v. source' v (kind v);
    found = λ v. found' v (kind v);
    order = λ u v p q. omega (arith, taken-low u (kind u) p, waiting-high v (kind v) q);
    closed = λ e x y h j. closed' e x y h j (kind x);
  }
