-- With every weight 1 the crossing weight of every accepted code is d. Assumes nothing.
use mathlib.Core.Path.{◌≡◌, refl, sym, ap, ◌∙◌, subst}
use mathlib.Core.Logic.{inl, inr}
use mathlib.Core.List.{List, ◌∷◌}
use Prim.Native.Nat.{ℕ, zero, suc, ◌+◌, ◌-◌, ◌*◌, ◌/◌, ◌%◌, ◌≤◌, ◌<◌}
use native.Mathlib.Decide.{ℕ_discrete, dec_le}
use native.Mathlib.Omega.{arith}
use lib.ListN.{length, get_or, length-map}
use Rattle.columns.specs.Lists.{each}
use Rattle.columns.proofs.Counting.{length-each}
use Rattle.engine_walks.specs.Graph.{Graph, edges, end_a, end_b, boundary_at, GraphInRange, Left, Right, Walk, stay, step}
use Rattle.engine_walks.specs.Claims.{Potential}
use Rattle.engine_walks.proofs.LeastWeights.{snoc}
use Rattle.engine_walks.proofs.LeastCrossing.{certificate_decides}
use Rattle.engine_walks.proofs.Sums.{sum_ones}
use Rattle.codes_writers.specs.Edges.{Ends}
use native.Mathlib.Nat.{zero-mul}
use borrow.Author.Tests.{eq-eqb, ne_eqb, le-leb, lt-leb}
use Rattle.codes_planar.specs.Planar.{planar_boundary}
use Rattle.codes_rotated.specs.Rotated.{rotated_width, rotated_boundary, rotated_row}
use Rattle.codes_layers.specs.Codes.{edges_of, layer_size, rows, width}
use Rattle.codes_layers.specs.Counts.{vertex_num}
use Rattle.codes_layers.proofs.Counted.{row_count}
use Rattle.codes_layers.proofs.Accepted.{Accepted, accepted}
use Rattle.codes_graphs.specs.Graphs.{built_graph, height}
use Rattle.codes_graphs.specs.Claims.{HasDistance, CodesHaveDistance}
use Rattle.codes_graphs.proofs.Parts.{starts-at}
use Rattle.codes_graphs.proofs.AllEdges.{EdgeFacts, edge-facts}
use Rattle.codes_graphs.proofs.AllVertices.{byte_at, boundary-at, planar_boundary_lem, rotated_boundary_lem}
use Rattle.codes_graphs.proofs.Sound.{first-is, second_is}
use Rattle.codes_graphs.proofs.Straight.{row_first, turned-first, along_row, left_most, along, along_even, along_odd, turned_row}

module _ (kind d rounds : ℕ) (ok : Accepted kind d rounds) where
  abbrev g : Graph
  g = built_graph kind d rounds

  f : EdgeFacts (height kind d) (vertex_num kind d rounds) (edges_of kind d rounds)
  f = edge-facts kind d rounds ok

  many : edges g ≡ length (edges_of kind d rounds)
  unfolding built_graph
  many = length-map (edges_of kind d rounds) (λ (e : Ends). e.0)

  a-is : (k : ℕ) → end_a g k ≡ (get_or (edges_of kind d rounds) k (0, 0)).0
  unfolding built_graph
  a-is k = first-is kind d rounds ok k

  b-is : (k : ℕ) → end_b g k ≡ (get_or (edges_of kind d rounds) k (0, 0)).1
  unfolding built_graph
  b-is k = second_is kind d rounds ok k

  in_range : GraphInRange g
  unfolding built_graph
  in_range = record {
    a_in = λ k h. omega (arith, a-is k, f.rising k (omega (arith, many)), f.within k (omega (arith, many)));
    b_in = λ k h. omega (arith, b-is k, f.within k (omega (arith, many)));
    byte = λ v h. omega (arith, (byte_at kind d rounds ok v h).few);
  }

  heights : Potential g (λ e. 1) d (height kind d)
  unfolding built_graph
  heights = record {
    left = λ v h e. (byte_at kind d rounds ok v h).left e;
    right = λ v h e. omega (arith, (byte_at kind d rounds ok v h).right e);
    up = λ k h. rw (a-is k, b-is k) (f.up k (omega (arith, many)));
    down = λ k h. rw (a-is k, b-is k) (f.down k (omega (arith, many)));
  }

  record Straight : Type 0 where
    x : ℕ
    y : ℕ
    s : List ℕ
    from : Left g x
    to : Right g y
    walk : Walk g x s y
    long : length s ≡ d

  -- edge k, where the list has it
  joins : (k a b : ℕ) → get_or (edges_of kind d rounds) k (0, 0) ≡ (a, b) → (end_a g k ≡ a) × (end_b g k ≡ b)
  joins k a b e = (a-is k ∙ ap (λ (z : Ends). z.0) e, b-is k ∙ ap (λ (z : Ends). z.1) e)

  -- ---- kinds 1 to 4: from place d of the first row to its first place, and along it to place d - 1

  module _ (low : kind ≤ 4) where
    row-edge : (k : ℕ) → k < d → (get_or (edges_of kind d rounds) k (0, 0) ≡ get_or (Rattle.codes_planar.specs.Planar.row_edges d 0) k (0, 0)) × (k < edges g)
    row-edge k h =
        let z = starts-at _ _ (0, 0) k (row_first kind d rounds ok low) (omega (arith, row_count d 0 (omega (arith, ok.distance.three)))) in
        (z.0, omega (arith, z.1, many))

    step-at : (k : ℕ) → k < d - 1 → (end_a g k ≡ k) × (end_b g k ≡ k + 1)
    step-at k h = joins k k (k + 1) ((row-edge k (omega arith)).0 ∙ along_row d k h)

    entry : (end_a g (d - 1) ≡ 0) × (end_b g (d - 1) ≡ d)
    entry = joins (d - 1) 0 d ((row-edge (d - 1) (omega (arith, ok.distance.three))).0 ∙ left_most d (omega (arith, ok.distance.three)))

    walk-to : (k : ℕ) → k ≤ d - 1 → Walk g 0 (each k (λ i. i)) k
    unfolding each
    walk-to zero h = stay
    walk-to (suc k) h = let z = step-at k (omega arith) in snoc (walk-to k (omega arith)) (row-edge k (omega arith)).1 (inl (z.0, z.1 ∙ omega arith))

    row-byte : (j : ℕ) → j < d + 1 → boundary_at g j ≡ planar_boundary d j
    unfolding built_graph rows width
    row-byte j h =
        let w : width kind d ≡ d + 1 = simp (le-leb _ _ low) in
        ap (λ (k : ℕ). boundary_at g k) (omega (arith, zero-mul (layer_size kind d), zero-mul (width kind d)))
        ∙ boundary-at kind d rounds ok 0 0 j (omega arith) some-row (omega (arith, w)) ∙ planar_boundary_lem kind d 0 0 j low
      where
        some-row : 0 < rows kind d
        some-row = elim (ℕ_discrete kind 1) [ yes e ↦ simp (eq-eqb _ _ e) (omega arith) | no e ↦ simp (ne_eqb _ _ e, le-leb _ _ low) (omega (arith, ok.distance.three)) ]

    left-byte : planar_boundary d d ≡ 1
    unfolding planar_boundary
    left-byte = simp (eq-eqb d d refl)

    right-byte : planar_boundary d (d - 1) ≡ 2
    unfolding planar_boundary
    right-byte = simp (ne_eqb (d - 1) d (λ q. omega (arith, ok.distance.three)), eq-eqb (d - 1 + 1) d (omega (arith, ok.distance.three)))

    planar-straight : Straight
    planar-straight =
        let three = ok.distance.three in
        let inside : d < g.vertices = subst (λ (m : ℕ). m < g.vertices) entry.1 (in_range.b_in (d - 1) (row-edge (d - 1) (omega arith)).1) in
        record {
          x = d;
          y = d - 1;
          s = (d - 1) ∷ each (d - 1) (λ i. i);
          from = (inside, row-byte d (omega arith) ∙ left-byte);
          to = (omega arith, row-byte (d - 1) (omega arith) ∙ right-byte);
          walk = step (row-edge (d - 1) (omega arith)).1 (inr (entry.0, entry.1)) (walk-to (d - 1) (omega arith));
          long = omega (arith, length-each (d - 1) (λ (i : ℕ). i));
        }

  -- ---- kinds 5 and 6: the edges below the first row, from the first place of the second row to the last place of the first

  module _ (high : 4 < kind) where
    abbrev w : ℕ
    w = rotated_width d

    turn-edge : (k : ℕ) → k < d → (end_a g k ≡ k / 2) × (end_b g k ≡ w + (k + 1) / 2) × (k < edges g)
    unfolding rotated_row
    turn-edge k h =
        let z = starts-at (rotated_row d 0 0) (edges_of kind d rounds) (0, 0) k (turned-first kind d rounds ok high) (omega (arith, length-each {A = Ends} d (λ i. Rattle.codes_rotated.specs.Rotated.rotated_edge (rotated_width d) (0 + 0 * rotated_width d) 0 i))) in
        let j = joins k (k / 2) (w + (k + 1) / 2) (z.0 ∙ turned_row d k h) in
        (j.0, j.1, omega (arith, z.1, many))

    turn-walk : (k : ℕ) → k ≤ d → Walk g (along w 0) (each k (λ i. i)) (along w k)
    unfolding each
    turn-walk zero h = stay
    turn-walk (suc k) h =
        let z = turn-edge k (omega arith) in
        snoc (turn-walk k (omega arith)) z.2 (elim (ℕ_discrete (k % 2) 0) [
          | yes e ↦ inr (z.0 ∙ sym (along_odd w (suc k) (λ q. omega arith) ∙ omega arith), z.1 ∙ sym (along_even w k e ∙ omega arith))
          | no e ↦ inl (z.0 ∙ sym (along_odd w k e), z.1 ∙ sym (along_even w (suc k) (omega arith) ∙ omega arith))
        ])

    turn_byte : (row i : ℕ) → row < 2 → i < w → boundary_at g (row * w + i) ≡ rotated_boundary w row i
    unfolding built_graph rows width
    turn_byte row i hr hi =
        let v : width kind d ≡ w = simp (lt-leb _ _ high) in
        let r : rows kind d ≡ d + 1 = simp (ne_eqb kind 1 (λ q. omega arith), lt-leb _ _ high) in
        ap (λ (k : ℕ). boundary_at g k) (omega (arith, zero-mul (layer_size kind d), ap (λ (m : ℕ). row * m) v))
        ∙ boundary-at kind d rounds ok 0 row i (omega arith) (omega (arith, r, ok.distance.three)) (omega (arith, v)) ∙ rotated_boundary_lem kind d 0 row i high

    left-turn : rotated_boundary w 1 0 ≡ 1
    unfolding rotated_boundary
    left-turn = refl

    right-turn : rotated_boundary w 0 (w - 1) ≡ 2
    unfolding rotated_boundary
    right-turn = simp (eq-eqb (w - 1 + 1) w (omega arith))

    rotated-straight : Straight
    rotated-straight =
        let three = ok.distance.three in
        let odd = ok.distance.odd in
        let start : along w 0 ≡ w = along_even w 0 refl ∙ omega arith in
        let end : along w d ≡ w - 1 = along_odd w d (λ q. omega arith) ∙ omega arith in
        let z = turn-edge 0 (omega arith) in
        let inside : w + (0 + 1) / 2 < g.vertices = subst (λ (m : ℕ). m < g.vertices) z.1 (in_range.b_in 0 z.2) in
        record {
          x = w;
          y = w - 1;
          s = each d (λ i. i);
          from = (omega arith, ap (λ (k : ℕ). boundary_at g k) (omega arith) ∙ turn_byte 1 0 (omega arith) (omega arith) ∙ left-turn);
          to = (omega arith, ap (λ (k : ℕ). boundary_at g k) (omega (arith, zero-mul w)) ∙ turn_byte 0 (w - 1) (omega arith) (omega arith) ∙ right-turn);
          walk = subst (λ (m : ℕ). Walk g m (each d (λ i. i)) (w - 1)) start (subst (λ (m : ℕ). Walk g (along w 0) (each d (λ i. i)) m) end (turn-walk d (omega arith)));
          long = length-each d (λ (i : ℕ). i);
        }

  straight-walk : Straight
  straight-walk = elim (dec_le kind 4) [ yes h ↦ planar-straight h | no h ↦ rotated-straight (omega arith) ]

  pub has-distance : HasDistance kind d rounds
  has-distance =
      let z = straight-walk in
      let c = certificate_decides g (λ e. 1) d (height kind d) z.x z.y z.s in_range heights z.from z.to z.walk (sum_ones z.s ∙ z.long) in
      record {
        potential = heights;
        straight = (z.x, z.y, z.s, z.from, z.to, z.walk, z.long);
        is_crossing = c.0;
        crossing_weight = c.1;
        fewest = λ s k. omega (arith, c.0.every_set s k, sum_ones s);
      }

pub codes_have_distance : CodesHaveDistance
codes_have_distance kind d rounds b = has-distance kind d rounds (accepted kind d rounds 0 b).0
