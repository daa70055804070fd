-- Where a row has no edge, in terms of walks: the table's row of the peer has a least weight or none, and boundary weights are least weights. Assumes nothing.
use mathlib.Core.Path.{◌≡◌, refl, sym, ap, ◌∙◌, subst}
use mathlib.Core.Logic.{inl, inr, ◌↔◌}
use mathlib.Core.Bool.{Bool, true, false, cond, ◌||◌}
use mathlib.Core.List.{List}
use mathlib.Core.Option.{Option, some, none}
use Prim.Native.Nat.{ℕ, ◌+◌, ◌<◌}
use native.Mathlib.Omega.{arith}
use lib.Dec.{ltb, eqb}
use lib.IntN.{ℤ, pos, negsuc}
use borrow.Author.Tests.{eqb-true, eq-eqb, ltb-true, lt-ltb}
use Rattle.engine_walks.specs.Graph.{Graph, GraphInRange, Walk, LeastWeight}
use Rattle.engine_walks.specs.Answers.{weight_in, table}
use Rattle.engine_walks.specs.Claims.{Row, IsTable}
use Rattle.engine_walks.proofs.TableAndPath.{table_is_least}
use Rattle.prebuilt_claims.specs.Prebuilt.{virtual, reached, Peer, get_boundary_weight, remaining, get_edge_weight, edge_entry, NearestVirtual, NearerByBoundary, NoEdge, own_virtual, peer_virtual, itself, not_joined, by_boundary}
use Rattle.prebuilt_claims.proofs.Boundaries.{BoundaryIs, boundary_is, excluded}

zero_one : {A : Type 0} {x : ℤ} (k : ℕ) → x ≡ pos k → x ≡ negsuc 0 → A
zero_one k p q = absurd (let z : ◌≡◌ {A = ℕ} 0 1 = cc in omega arith)

module _ (g : Graph) (w : ℕ → ℕ) (ok : GraphInRange g) (v u : ℕ) (hv : v < g.vertices) (hu : u < g.vertices) where
  abbrev T : List ℤ
  T = (table g w v none).weights

  is_table : IsTable g w v none (table g w v none)
  is_table = table_is_least g w v none ok hv

  abbrev entry_of : (own peer : Option Peer) (a b same : Bool) (z : ℤ) → ℤ
  entry_of own peer a b same z = edge_entry (remaining own peer (cond (a || b) none (cond same none (reached z))))

  -- ---- -1, so one of the reasons

  middle : (k : ℕ) → LeastWeight g w (λ x. x ≡ v) u k → (own peer : Option Peer) → BoundaryIs g w v own → BoundaryIs g w u peer
      → edge_entry (remaining own peer (some k)) ≡ negsuc 0 → NearerByBoundary g w v u
  middle k least none peer p q e = zero_one k refl e
  middle k least (some x) none p q e = zero_one k refl e
  middle k least (some x) (some y) p q e = go (ltb (x.weight + y.weight) k) refl e
    where
      go : (b : Bool) → ltb (x.weight + y.weight) k ≡ b → edge_entry (cond b none (some k)) ≡ negsuc 0 → NearerByBoundary g w v u
      go false r f = zero_one k refl f
      go true r f = record {
        a = x.weight;
        b = y.weight;
        of_v = x.vertex;
        of_u = y.vertex;
        own = p;
        peer = q;
        heavier = λ s walk. omega (arith, ltb-true (x.weight + y.weight) k r, least.no_lighter v s refl walk);
      }

  reason : (a b same : Bool) → virtual g v ≡ a → virtual g u ≡ b → eqb u v ≡ same
      → entry_of (get_boundary_weight g w v) (get_boundary_weight g w u) a b same (weight_in T u) ≡ negsuc 0 → NoEdge g w v u
  reason true b same p q r e = own_virtual p
  reason false true same p q r e = peer_virtual q
  reason false false true p q r e = itself (eqb-true u v r)
  reason false false false p q r e = go (is_table.rows u hu)
    where
      go : Row g w v (table g w v none) u → NoEdge g w v u
      go (inr (m, z)) = not_joined (is_table.unreached tt u hu m)
      go (inl (k, m, least, n, fits, back)) =
          by_boundary (middle k least (get_boundary_weight g w v) (get_boundary_weight g w u) (boundary_is g w v ok hv) (boundary_is g w u ok hu)
          (ap (λ z. edge_entry (remaining (get_boundary_weight g w v) (get_boundary_weight g w u) (reached z))) (sym m) ∙ e))

  -- ---- a reason, so -1

  none-there : (own peer : Option Peer) (b : Bool) → edge_entry (remaining own peer (cond b none none)) ≡ negsuc 0
  none-there own peer true = refl
  none-there own peer false = refl

  not_reached : (own peer : Option Peer) (a same : Bool) → edge_entry (remaining own peer (cond a none (cond same none none))) ≡ negsuc 0
  not_reached own peer a true = none-there own peer a
  not_reached own peer a false = none-there own peer a

  hidden : (own peer : Option Peer) (a b same : Bool) (z : ℤ) → (a || b) ≡ true → entry_of own peer a b same z ≡ negsuc 0
  hidden own peer a b same z e = ap (λ h. edge_entry (remaining own peer (cond h none (cond same none (reached z))))) e

  or_true : (a : Bool) → (a || true) ≡ true
  or_true true = refl
  or_true false = refl

  -- a boundary weight is the least, so there is one of that weight
  same-weight : (x : ℕ) (o : Option Peer) → BoundaryIs g w x o → (y k : ℕ) → NearestVirtual g w x y k → (p : Peer) × (o ≡ some p) × (p.weight ≡ k)
  same-weight x none b y k n = absurd (excluded g w x y k n b)
  same-weight x (some p) b y k n =
      let (s, walk, weighs) = n.some_walk in
      let (t, walk', weighs') = b.some_walk in
      (p, refl, omega (arith, b.no_lighter y s n.is_virtual walk, n.no_lighter p.vertex t b.is_virtual walk', weighs, weighs'))

  removed-there : (k : ℕ) → LeastWeight g w (λ x. x ≡ v) u k → NearerByBoundary g w v u → edge_entry (remaining (get_boundary_weight g w v) (get_boundary_weight g w u) (some k)) ≡ negsuc 0
  removed-there k least n =
      let (x, o, a-is) = same-weight v (get_boundary_weight g w v) (boundary_is g w v ok hv) n.of_v n.a n.own in
      let (y, o', b-is) = same-weight u (get_boundary_weight g w u) (boundary_is g w u ok hu) n.of_u n.b n.peer in
      let (z, s, same, walk, weighs) = least.some_walk in
      let heavy = n.heavier s (subst (λ c. Walk g c s u) same walk) in
      (λ i. edge_entry (remaining (o i) (o' i) (some k)))
      ∙ ap (λ b. edge_entry (cond b none (some k))) (lt-ltb (x.weight + y.weight) k (omega (arith, heavy, weighs, a-is, b-is)))

  no-entry : NoEdge g w v u → edge_entry (get_edge_weight g w v u) ≡ negsuc 0
  no-entry (own_virtual p) = hidden _ _ (virtual g v) (virtual g u) (eqb u v) (weight_in T u) (ap (λ a. a || virtual g u) p)
  no-entry (peer_virtual q) = hidden _ _ (virtual g v) (virtual g u) (eqb u v) (weight_in T u) (ap (λ b. virtual g v || b) q ∙ or_true (virtual g v))
  no-entry (itself r) =
      ap (λ same. entry_of (get_boundary_weight g w v) (get_boundary_weight g w u) (virtual g v) (virtual g u) same (weight_in T u)) (eq-eqb u v r) ∙ none-there _ _ (virtual g v || virtual g u)
  no-entry (not_joined f) = go (is_table.rows u hu)
    where
      go : Row g w v (table g w v none) u → edge_entry (get_edge_weight g w v u) ≡ negsuc 0
      go (inl (k, m, least, n', fits, back)) = let (x, s, same, walk, weighs) = least.some_walk in absurd (f (s, subst (λ c. Walk g c s u) same walk))
      go (inr (m, z)) = ap (entry_of (get_boundary_weight g w v) (get_boundary_weight g w u) (virtual g v) (virtual g u) (eqb u v)) m ∙ not_reached _ _ (virtual g v || virtual g u) (eqb u v)
  no-entry (by_boundary n) = go (is_table.rows u hu)
    where
      either : (a same : Bool) (k : ℕ) → LeastWeight g w (λ x. x ≡ v) u k → edge_entry (remaining (get_boundary_weight g w v) (get_boundary_weight g w u) (cond a none (cond same none (some k)))) ≡ negsuc 0
      either true same k least = refl
      either false true k least = refl
      either false false k least = removed-there k least n

      go : Row g w v (table g w v none) u → edge_entry (get_edge_weight g w v u) ≡ negsuc 0
      go (inl (k, m, least, n', fits, back)) = ap (entry_of (get_boundary_weight g w v) (get_boundary_weight g w u) (virtual g v) (virtual g u) (eqb u v)) m ∙ either (virtual g v || virtual g u) (eqb u v) k least
      go (inr (m, z)) = ap (entry_of (get_boundary_weight g w v) (get_boundary_weight g w u) (virtual g v) (virtual g u) (eqb u v)) m ∙ not_reached _ _ (virtual g v || virtual g u) (eqb u v)

  pub no-edge-when : (x : ℤ) → x ≡ edge_entry (get_edge_weight g w v u) → (x ≡ negsuc 0) ↔ NoEdge g w v u
  no-edge-when x e = (λ z. reason (virtual g v) (virtual g u) (eqb u v) refl refl refl (sym e ∙ z), λ n. e ∙ no-entry n)
