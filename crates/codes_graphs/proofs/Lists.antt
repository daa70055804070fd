-- Neighbour lists of built codes: no list is empty, and each ascends. Assumes nothing.
use mathlib.Core.Path.{◌≡◌, refl, sym, ap, ◌∙◌, subst}
use mathlib.Core.Bool.{Bool}
use mathlib.Core.Logic.{◌⊎◌, inl, inr}
use mathlib.Core.List.{List, [], ◌∷◌}
use Prim.Native.Nat.{ℕ, ◌+◌, ◌-◌, ◌*◌, ◌/◌, ◌%◌, ◌≤◌, ◌<◌}
use native.Mathlib.Nat.{mod-lt, div-add-mod', div-lt_iff_lt-mul}
use native.Mathlib.Decide.{ℕ_discrete, dec_le, dec_lt}
use native.Mathlib.Omega.{arith}
use lib.ListN.{length, get_or, get_or-map}
use Rattle.columns.specs.Lists.{each, joined, layered, when}
use Rattle.columns.proofs.Counting.{times_next}
use Rattle.columns_neighbors.specs.Lists.{neighbors, hits, chosen}
use Rattle.columns_neighbors.proofs.Placing.{length_more, length_within, length-hit}
use Rattle.codes_writers.specs.Edges.{Ends, firsts, seconds}
use Rattle.codes_planar.specs.Planar.{row_edges, planar_row, planar_layer}
use Rattle.codes_rotated.specs.Rotated.{rotated_width, rotated_edge, rotated_row, rotated_layer}
use Rattle.codes_layers.specs.Codes.{rows, width, layer_size, layer_edges, gap_edges, edges_of}
use Rattle.codes_layers.specs.Counts.{vertex_num, edge_num}
use Rattle.codes_layers.proofs.ByKind.{planar-rows, rotated-rows, one-layer, planar-layers, rotated-layers}
use Rattle.codes_layers.proofs.Counted.{edges-counted}
use Rattle.codes_layers.proofs.Accepted.{Accepted}
use Rattle.codes_graphs.proofs.Parts.{Keyed, keyed-from, keyed-to, keyed-when, keyed-joined, keyed-two, Has, has_first, has-then, has-joined, has-layer, has_each}
use Rattle.codes_graphs.proofs.RotatedEdges.{edge_even, edge_odd}
use Rattle.codes_graphs.proofs.AllEdges.{vertices_are}

-- ---- a list of edge numbers ascends

pub chosen_ascends : (n : ℕ) (test : ℕ → Bool) (j k : ℕ) → j < k → k < length (chosen n test) → get_or (chosen n test) j 0 < get_or (chosen n test) k 0
unfolding chosen
chosen_ascends n test j k h l =
    let all : Keyed Same 0 (0 + n * 1) (joined n (λ x. when (test x) x)) = keyed-joined Same n 0 1 (λ x. when (test x) x) (λ i g.
    keyed-from Same i (0 + i * 1) (0 + i * 1 + 1) (when (test i) i) (omega arith) (keyed-to Same i (i + 1) (0 + i * 1 + 1) (when (test i) i) (omega arith) (keyed-when Same (test i) i i (λ b. refl)))) in
    let z = keyed-two Same 0 (0 + n * 1) (joined n (λ x. when (test x) x)) 0 j k all h l in
    omega (arith, z.2, z.3, z.4)
  where
    Same : ℕ → ℕ → Type 0
    Same x y = y ≡ x

-- ---- a vertex that ends an edge has a list

pub listed : (a b : List ℕ) (e v k : ℕ) → k < e → (get_or a k 0 ≡ v) ⊎ (get_or b k 0 ≡ v) → 1 ≤ length (neighbors a b e v)
listed a b e v k h (inl q) = omega (arith, length_more a b k v, length_within a b (k + 1) e v (omega arith), ap (λ (x : ℕ). length (hits v x k)) q, length-hit v k)
listed a b e v k h (inr q) = omega (arith, length_more a b k v, length_within a b (k + 1) e v (omega arith), ap (λ (x : ℕ). length (hits v x k)) q, length-hit v k)

-- ---- every vertex ends an edge

-- an edge of the list that ends at v
pub record Touches (v : ℕ) (es : List Ends) : Type 0 where
  pub edge : Ends
  pub has : Has (0, 0) edge es
  pub ends : (edge.0 ≡ v) ⊎ (edge.1 ≡ v)

row_touches : (d bias i : ℕ) → 2 ≤ d → i < d + 1 → Touches (bias + i) (row_edges d bias)
unfolding row_edges
row_touches d bias i two h = elim (ℕ_discrete i d) [
  | yes e ↦ record { edge = (bias, bias + d); has = has-then (0, 0) (bias, bias + d) along ((bias, bias + d) ∷ []) (record { place = 0; in_list = omega arith; is = refl }); ends = inr (omega arith) }
  | no f ↦ elim (ℕ_discrete (i + 1) d) [
    | yes e ↦ record { edge = (bias + (i - 1), bias + (i - 1) + 1); has = has_first (0, 0) _ along ((bias, bias + d) ∷ []) (has_each (0, 0) (d - 1) (λ k. (bias + k, bias + k + 1)) (i - 1) (omega arith)); ends = inr (omega arith) }
    | no g ↦ record { edge = (bias + i, bias + i + 1); has = has_first (0, 0) _ along ((bias, bias + d) ∷ []) (has_each (0, 0) (d - 1) (λ k. (bias + k, bias + k + 1)) i (omega arith)); ends = inl refl }
  ]
]
  where
    along : List Ends
    along = each (d - 1) (λ k. (bias + k, bias + k + 1))

planar_touches : (d base row i : ℕ) → 2 ≤ d → row < d → i < d + 1 → Touches (base + row * (d + 1) + i) (planar_layer d base)
unfolding planar_layer planar_row
planar_touches d base row i two hr hi =
    let z = row_touches d (base + row * (d + 1)) i two hi in
    record { edge = z.edge; has = has-joined (0, 0) z.edge d (λ r. planar_row d base r) row hr (has_first (0, 0) z.edge _ _ z.has); ends = z.ends }

rotated_touches : (d base row p : ℕ) → d % 2 ≡ 1 → row < d + 1 → p < rotated_width d → Touches (base + row * rotated_width d + p) (rotated_layer d base)
unfolding rotated_layer rotated_row
rotated_touches d base row p odd hr hp = elim (dec_lt row d) [
  | yes l ↦ record {
    edge = rotated_edge w (base + row * w) row (2 * p);
    has = in_row row l;
    ends = inl (elim (ℕ_discrete (row % 2) 0) [
      | yes e ↦ ap (λ (x : Ends). x.0) (edge_even w (base + row * w) row (2 * p) e) ∙ omega arith
      | no f ↦ ap (λ (x : Ends). x.0) (edge_odd w (base + row * w) row (2 * p) f) ∙ omega arith
    ]);
  }
  | no l ↦
      let last : row ≡ d - 1 + 1 = omega arith in
      let q : (d - 1 + 1) * w ≡ (d - 1) * w + w = times_next (d - 1) w in
      let r : row * w ≡ (d - 1) * w + w = ap (λ (m : ℕ). m * w) last ∙ q in
      record {
        edge = rotated_edge w (base + (d - 1) * w) (d - 1) (2 * p);
        has = in_row (d - 1) (omega arith);
        ends = inr (elim (ℕ_discrete ((d - 1) % 2) 0) [
          | yes e ↦ ap (λ (x : Ends). x.1) (edge_even w (base + (d - 1) * w) (d - 1) (2 * p) e) ∙ omega arith
          | no f ↦ ap (λ (x : Ends). x.1) (edge_odd w (base + (d - 1) * w) (d - 1) (2 * p) f) ∙ omega arith
        ]);
      }
]
  where
    w : ℕ
    w = rotated_width d

    in_row : (r : ℕ) → r < d → Has (0, 0) (rotated_edge w (base + r * w) r (2 * p)) (joined d (λ s. each d (λ i. rotated_edge (rotated_width d) (base + s * rotated_width d) s i)))
    in_row r l = has-joined (0, 0) _ d (λ s. each d (λ i. rotated_edge (rotated_width d) (base + s * rotated_width d) s i)) r l (has_each (0, 0) d (λ i. rotated_edge (rotated_width d) (base + r * rotated_width d) r i) (2 * p) (omega arith))

module _ (kind d rounds : ℕ) (ok : Accepted kind d rounds) where
  -- a place of a layer
  layer-touches : (base row i : ℕ) → row < rows kind d → i < width kind d → Touches (base + row * width kind d + i) (layer_edges kind d base)
  unfolding rows width
  layer-touches base row i hr hi = elim (ℕ_discrete kind 1) [
    | yes e ↦
        let w : width kind d ≡ d + 1 = rw e in
        let r : rows kind d ≡ 1 = rw e in
        let z = row_touches d base i (omega (arith, ok.distance.three)) (omega (arith, w)) in
        renamed (one-layer kind d base e) (let zero_row : row ≡ 0 = omega (arith, r) in omega (arith, ap (λ (m : ℕ). m * width kind d) zero_row, native.Mathlib.Nat.zero-mul (width kind d))) z
    | no f ↦ elim (dec_le kind 4) [
      | yes k ↦
          let w : width kind d ≡ d + 1 = simp (borrow.Author.Tests.le-leb _ _ k) in
          let r : rows kind d ≡ d = simp (borrow.Author.Tests.ne_eqb _ _ f, borrow.Author.Tests.le-leb _ _ k) in
          renamed (planar-layers kind d base f k) (ap (λ (m : ℕ). base + row * m + i) (sym w)) (planar_touches d base row i (omega (arith, ok.distance.three)) (omega (arith, r)) (omega (arith, w)))
      | no k ↦
          let w : width kind d ≡ rotated_width d = simp (borrow.Author.Tests.lt-leb kind 4 (omega arith)) in
          let r : rows kind d ≡ d + 1 = simp (borrow.Author.Tests.ne_eqb _ _ f, borrow.Author.Tests.lt-leb kind 4 (omega arith)) in
          renamed (rotated-layers kind d base (omega arith)) (ap (λ (m : ℕ). base + row * m + i) (sym w)) (rotated_touches d base row i ok.distance.odd (omega (arith, r)) (omega (arith, w)))
    ]
  ]
    where
      renamed : {es fs : List Ends} {u v : ℕ} → es ≡ fs → u ≡ v → Touches u fs → Touches v es
      renamed {es} {fs} {u} {v} p q t = subst (λ (l : List Ends). Touches v l) (sym p) (subst (λ (x : ℕ). Touches x fs) q t)

  some-place : (0 < width kind d) × (0 < layer_size kind d)
  unfolding rows width
  some-place = elim (ℕ_discrete kind 1) [
    | yes e ↦ rw e (omega arith)
    | no f ↦ elim (dec_le kind 4) [
      | yes k ↦ (simp (borrow.Author.Tests.le-leb _ _ k) (omega arith), omega (arith, planar-rows kind d f k, native.Mathlib.Nat.mul-le-mul_right {m = 1} {n = d} (d + 1) (omega (arith, ok.distance.three))))
      | no k ↦ (simp (borrow.Author.Tests.lt-leb kind 4 (omega arith)) (omega arith), omega (arith, rotated-rows kind d (omega arith), native.Mathlib.Nat.mul-le-mul_right {m = 1} {n = d + 1} (rotated_width d) (omega arith)))
    ]
  ]

  pub vertex-touched : (v : ℕ) → v < vertex_num kind d rounds → Touches v (edges_of kind d rounds)
  unfolding edges_of
  vertex-touched v h =
      let s : ℕ = layer_size kind d in
      let w : ℕ = width kind d in
      let t : ℕ = v / s in
      let x : ℕ = v % s in
      let x-in : x < rows kind d * w = mod-lt v some-place.1 in
      let t-in : t < rounds + 1 = (div-lt_iff_lt-mul some-place.1).1 (omega (arith, vertices_are kind d rounds ok)) in
      let z = layer-touches (t * s) (x / w) (x % w) ((div-lt_iff_lt-mul some-place.0).1 x-in) (mod-lt x some-place.0) in
      let v-is : t * s + x / w * w + x % w ≡ v = omega (arith, div-add-mod' v s, div-add-mod' x w) in
      subst (λ (u : ℕ). Touches u (layered rounds (λ t. layer_edges kind d (t * layer_size kind d)) (λ t. gap_edges kind d (t * layer_size kind d)))) v-is
      (record { edge = z.edge; has = has-layer (0, 0) z.edge rounds (λ t. layer_edges kind d (t * layer_size kind d)) (λ t. gap_edges kind d (t * layer_size kind d)) t (omega arith) z.has; ends = z.ends })

  pub vertex-listed : (v : ℕ) → v < vertex_num kind d rounds → 1 ≤ length (neighbors (firsts (edges_of kind d rounds)) (seconds (edges_of kind d rounds)) (edge_num kind d rounds) v)
  vertex-listed v h =
      let z = vertex-touched v h in
      let k : ℕ = z.has.place in
      let n = edges-counted kind d ok.distance.three rounds in
      listed (firsts (edges_of kind d rounds)) (seconds (edges_of kind d rounds)) (edge_num kind d rounds) v k (omega (arith, z.has.in_list)) (go k z.has.is z.ends)
    where
      go : (k : ℕ) {e : Ends} → get_or (edges_of kind d rounds) k (0, 0) ≡ e → (e.0 ≡ v) ⊎ (e.1 ≡ v) → (get_or (firsts (edges_of kind d rounds)) k 0 ≡ v) ⊎ (get_or (seconds (edges_of kind d rounds)) k 0 ≡ v)
      go k q (inl r) = inl (get_or-map (λ (e : Ends). e.0) (edges_of kind d rounds) k (0, 0) ∙ ap (λ (e : Ends). e.0) q ∙ r)
      go k q (inr r) = inr (get_or-map (λ (e : Ends). e.1) (edges_of kind d rounds) k (0, 0) ∙ ap (λ (e : Ends). e.1) q ∙ r)

  pub some_vertex : 1 ≤ vertex_num kind d rounds
  some_vertex = omega (arith, vertices_are kind d rounds ok, times_next rounds (layer_size kind d), some-place.1)
