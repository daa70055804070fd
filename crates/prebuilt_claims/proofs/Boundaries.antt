-- Boundary weights are the lightest walks to virtual vertices: the loop finds the first of the least in the table, and the table holds least weights. Assumes nothing.
use mathlib.Core.Path.{◌≡◌, refl, sym, ap, ◌∙◌, subst}
use mathlib.Core.Logic.{inl, inr, ◌↔◌}
use mathlib.Core.Bool.{Bool, true, false, cond, ◌&&◌}
use mathlib.Core.List.{List}
use mathlib.Core.Option.{Option, some, none}
use Prim.Native.Nat.{ℕ, ◌<◌, ◌≤◌}
use native.Mathlib.Omega.{arith}
use lib.IntN.{ℤ, pos, negsuc}
use Rattle.columns.proofs.Tests.{and_both, both_and}
use Rattle.engine_walks.specs.Lists.{sum}
use Rattle.engine_walks.specs.Graph.{Graph, GraphInRange, Walk}
use Rattle.engine_walks.specs.Answers.{weight_in, table}
use Rattle.engine_walks.specs.Claims.{Row, IsTable, IsFirst}
use Rattle.engine_walks.proofs.FirstLeast.{first-least}
use Rattle.engine_walks.proofs.TableAndPath.{table_is_least}
use Rattle.prebuilt_entries.specs.Nearest.{is_reached, amount, nearest_in}
use Rattle.prebuilt_claims.specs.Prebuilt.{virtual, Peer, get_boundary_weight, weight_entry, vertex_entry, boundary_values, NearestVirtual, NoneVirtual}
use Rattle.prebuilt_claims.proofs.Scans.{peerOf, scanned}

module _ (g : Graph) (w : ℕ → ℕ) (v : ℕ) where
  -- a boundary weight or none, in terms of walks
  abbrev pub BoundaryIs : Option Peer → Type 0
  BoundaryIs none = NoneVirtual g v
  BoundaryIs (some b) = NearestVirtual g w v b.vertex b.weight

  -- ---- read off the table

  abbrev T : List ℤ
  T = (table g w v none).weights

  abbrev passes : ℕ → Bool
  passes u = virtual g u && is_reached (weight_in T u)

  abbrev at : ℕ → ℕ
  at u = amount (weight_in T u)

  module _ (ok : GraphInRange g) (inside : v < g.vertices) where
    is_table : IsTable g w v none (table g w v none)
    is_table = table_is_least g w v none ok inside

    -- a row that a walk leads to has a weight, and none of the walks weighs less
    walked : (u : ℕ) (s : List ℕ) → u < g.vertices → Walk g v s u → (is_reached (weight_in T u) ≡ true) × (at u ≤ sum s w)
    walked u s h walk = go (is_table.rows u h)
      where
        go : Row g w v (table g w v none) u → (is_reached (weight_in T u) ≡ true) × (at u ≤ sum s w)
        go (inl (k, e, least, n, fits, back)) = (ap is_reached e, subst (λ n. n ≤ sum s w) (sym (ap amount e)) (least.no_lighter v s refl walk))
        go (inr (e, rest)) = absurd (is_table.unreached tt u h e (s, walk))

    -- a row with a weight has a walk of that weight
    walk_of : (u : ℕ) → u < g.vertices → is_reached (weight_in T u) ≡ true → (s : List ℕ) × Walk g v s u × (sum s w ≡ at u)
    walk_of u h r = go (is_table.rows u h)
      where
        go : Row g w v (table g w v none) u → (s : List ℕ) × Walk g v s u × (sum s w ≡ at u)
        go (inl (k, e, least, n, fits, back)) =
            let (x, s, same, walk, weighs) = least.some_walk in
            (s, subst (λ y. Walk g y s u) same walk, weighs ∙ sym (ap amount e))
        go (inr (e, rest)) = absurd (let z : ◌≡◌ {A = ℕ} 0 1 = (let q = sym r ∙ ap is_reached e in cc) in omega arith)

    first-is : virtual g v ≡ false → (o : Option ℕ) → IsFirst passes at g.vertices o → BoundaryIs (peerOf g w v o)
    first-is inner none p = inr (λ x (h, b) (s, walk).
        absurd (let z : ◌≡◌ {A = ℕ} 0 1 = (let q = sym (both_and b (walked x s h walk).0) ∙ p x h in cc) in omega arith))
    first-is inner (some u) (h, t, best) = record {
      inner = inner;
      is_virtual = (h, (and_both (virtual g u) _ t).0);
      some_walk = walk_of u h (and_both (virtual g u) _ t).1;
      no_lighter = λ x s (l, b) walk. omega (arith, (best x l (both_and b (walked x s l walk).0)).0, (walked x s l walk).1);
      smallest = λ x s (l, b) walk e. (best x l (both_and b (walked x s l walk).0)).1 (omega (arith, (walked x s l walk).1, e));
    }

    pub boundary_is : BoundaryIs (get_boundary_weight g w v)
    boundary_is = subst BoundaryIs (sym (scanned g w v)) (go (virtual g v) refl)
      where
        go : (b : Bool) → virtual g v ≡ b → BoundaryIs (peerOf g w v (cond b none (nearest_in g.boundary T g.vertices)))
        go true q = inl q
        go false q = first-is q (nearest_in g.boundary T g.vertices) (first-least passes at g.vertices)

  -- ---- by what is reported

  -- one excludes the other
  pub excluded : (u k : ℕ) → NearestVirtual g w v u k → NoneVirtual g v → ⊥
  excluded u k n (inl q) = let z : ◌≡◌ {A = ℕ} 0 1 = (let r = sym q ∙ n.inner in cc) in omega arith
  excluded u k n (inr f) = f u n.is_virtual (n.some_walk.0, n.some_walk.1)

  pub entry-nearest : (o : Option Peer) → BoundaryIs o → (x : ℤ) (u k : ℕ) → x ≡ weight_entry o → u ≡ vertex_entry o → x ≡ pos k → NearestVirtual g w v u k
  entry-nearest none b x u k p q r = absurd (let z : ◌≡◌ {A = ℕ} 0 1 = cc in omega arith)
  entry-nearest (some y) b x u k p q r = let e : y.weight ≡ k = cc in subst (λ n. NearestVirtual g w v u n) e (subst (λ n. NearestVirtual g w v n y.weight) (sym q) b)

  pub entry_none : (o : Option Peer) → BoundaryIs o → (x : ℤ) → x ≡ weight_entry o → (x ≡ negsuc 0) ↔ NoneVirtual g v
  entry_none none b x p = (λ e. b, λ n. p)
  entry_none (some y) b x p = (λ e. absurd (let z : ◌≡◌ {A = ℕ} 0 1 = cc in omega arith), λ n. absurd (excluded y.vertex y.weight b n))

  pub values-nearest : (o : Option Peer) → BoundaryIs o → (u k : ℕ) → (1, u, k) ≡ boundary_values o → NearestVirtual g w v u k
  values-nearest none b u k e = absurd (let z : 1 ≡ 0 = ap (λ (x : ℕ × ℕ × ℕ). x.0) e in omega arith)
  values-nearest (some y) b u k e =
      subst (λ n. NearestVirtual g w v u n) (sym (ap (λ (x : ℕ × ℕ × ℕ). x.2) e)) (subst (λ n. NearestVirtual g w v n y.weight) (sym (ap (λ (x : ℕ × ℕ × ℕ). x.1) e)) b)

  pub values-none : (o : Option Peer) → BoundaryIs o → (x : ℕ × ℕ × ℕ) → x ≡ boundary_values o → (x ≡ (0, 0, 0)) ↔ NoneVirtual g v
  values-none none b x p = (λ e. b, λ n. p)
  values-none (some y) b x p =
      (λ e. absurd (let z : 1 ≡ 0 = ap (λ (t : ℕ × ℕ × ℕ). t.0) (sym p ∙ e) in omega arith), λ n. absurd (excluded y.vertex y.weight b n))
