-- The upper bound: a walk's edges, pairs of one edge cancelled, are an edge set of no greater weight. A list in which an edge is named twice stands
-- for the set of the edges that it names an odd number of times. Assumes nothing.
use mathlib.Core.Path.{◌≡◌, refl, sym, ap, ◌∙◌}
use mathlib.Core.Logic.{inl, inr}
use mathlib.Core.List.{List, [], ◌∷◌}
use Prim.Native.Nat.{ℕ, ◌+◌, ◌%◌, ◌≤◌, ◌<◌, zero-le}
use native.Mathlib.Decide.{ℕ_discrete}
use native.Mathlib.Omega.{arith}
use Rattle.engine_walks.specs.Lists.{delta, sum, All, Distinct}
use Rattle.engine_walks.specs.Graph.{Graph, edges, end_a, end_b, boundary_at, Left, Right, Walk, stay, step, CrossingSet}
use Rattle.engine_walks.proofs.Sums.{delta_other}

-- e, taken out of the list if it is there and put in if not; and so each edge of a list in turn
abbrev pub drops : {P : Type 0} → Dec P → ℕ → List ℕ → List ℕ → List ℕ
drops (yes p) x s t = s
drops (no f) x s t = x ∷ t

unfoldable pub toggle : ℕ → List ℕ → List ℕ
toggle e [] = e ∷ []
toggle e (x ∷ s) = drops (ℕ_discrete e x) x s (toggle e s)

unfoldable pub cancel : List ℕ → List ℕ
cancel [] = []
cancel (e ∷ s) = toggle e (cancel s)

-- whatever is summed over the edges: the parity is that of the sum with e, and the sum is no more; where e counts 0, it is the sum without e
record Toggled (e : ℕ) (s t : List ℕ) : Type 0 where
  parity : (g : ℕ → ℕ) → sum t g % 2 ≡ (g e + sum s g) % 2
  atmost : (g : ℕ → ℕ) → sum t g ≤ g e + sum s g
  apart : (g : ℕ → ℕ) → g e ≡ 0 → sum t g ≡ sum s g
  once : Distinct s → Distinct t
  all : (m : ℕ) → e < m → All (λ x. x < m) s → All (λ x. x < m) t

drops_is : (e x : ℕ) (s t : List ℕ) (d : Dec (e ≡ x)) → Toggled e s t → Toggled e (x ∷ s) (drops d x s t)
drops_is e x s t (yes p) h = record {
  parity = λ g. omega (arith, ap g p);
  atmost = λ g. omega (arith, ap g p);
  apart = λ g z. omega (arith, ap g p);
  once = λ o. o.1;
  all = λ m q a. a.1;
}
drops_is e x s t (no f) h = record {
  parity = λ g. omega (arith, h.parity g);
  atmost = λ g. omega (arith, h.atmost g);
  apart = λ g z. omega (arith, h.apart g z);
  once = λ o. (h.apart (delta x) (delta_other x e (λ q. f (sym q))) ∙ o.0, h.once o.1);
  all = λ m q a. (a.0, h.all m q a.1);
}

toggle_is : (e : ℕ) (s : List ℕ) → Toggled e s (toggle e s)
unfolding toggle
toggle_is e [] = record {
  parity = λ g. refl;
  atmost = λ g. omega arith;
  apart = λ g z. omega arith;
  once = λ o. (refl, o);
  all = λ m q a. (q, a);
}
toggle_is e (x ∷ s) = drops_is e x s (toggle e s) (ℕ_discrete e x) (toggle_is e s)

-- what is left after cancelling names no edge twice, no other edges than the list, sums to no more, and to the same parity
pub record Cancelled (s t : List ℕ) : Type 0 where
  pub parity : (g : ℕ → ℕ) → sum t g % 2 ≡ sum s g % 2
  pub atmost : (g : ℕ → ℕ) → sum t g ≤ sum s g
  pub once : Distinct t
  pub all : (m : ℕ) → All (λ x. x < m) s → All (λ x. x < m) t

pub cancel_is : (s : List ℕ) → Cancelled s (cancel s)
unfolding cancel
cancel_is [] = record { parity = λ g. refl; atmost = λ g. zero-le; once = tt; all = λ m a. a }
cancel_is (e ∷ s) =
    let h = cancel_is s in
    let t = toggle_is e (cancel s) in
    record {
      parity = λ g. omega (arith, h.parity g, t.parity g);
      atmost = λ g. omega (arith, h.atmost g, t.atmost g);
      once = t.once h.once;
      all = λ m a. t.all m a.0 (h.all m a.1);
    }

-- ---- a walk: whatever is summed over the ends of its edges has the parity of the sum over its own two ends

walk_ends : {g : Graph} {x y : ℕ} {s : List ℕ} → Walk g x s y → (d : ℕ → ℕ) → sum s (λ e. d (end_a g e) + d (end_b g e)) % 2 ≡ (d x + d y) % 2
walk_ends stay d = omega arith
walk_ends (step h (inl j) p) d = omega (arith, walk_ends p d, ap d j.0, ap d j.1)
walk_ends (step h (inr j) p) d = omega (arith, walk_ends p d, ap d j.0, ap d j.1)

pub walk_edges : {g : Graph} {x y : ℕ} {s : List ℕ} → Walk g x s y → All (λ e. e < edges g) s
walk_edges stay = tt
walk_edges (step h j p) = (h, walk_edges p)

-- the edges of a left-right walk, cancelled
pub upper_bound : {g : Graph} {x y : ℕ} {s : List ℕ} → Left g x → Right g y → Walk g x s y → CrossingSet g (cancel s)
upper_bound {g} {x} {y} {s} l r p =
    let c = cancel_is s in record {
      is_set = record { named = c.all (edges g) (walk_edges p); once = c.once };
      clean = λ v b i. omega (
        arith,
        c.parity (λ e. delta (end_a g e) v + delta (end_b g e) v),
        walk_ends p (λ u. delta u v),
        delta_other x v (λ q. omega (arith, ap (boundary_at g) q, l.1)),
        delta_other y v (λ q. omega (arith, ap (boundary_at g) q, r.1)),
      );
      odd = omega (
        arith,
        c.parity (λ e. delta (boundary_at g (end_a g e)) 1 + delta (boundary_at g (end_b g e)) 1),
        walk_ends p (λ u. delta (boundary_at g u) 1),
        ap (λ b. delta b 1) l.1,
        ap (λ b. delta b 1) r.1,
      );
    }
