-- Which edges of kind 4 are diagonal: the first is not, none of a code of no rounds is, and some edge is from one round on. Assumes nothing.
use mathlib.Core.Path.{◌≡◌, refl, sym, ap, ◌∙◌, subst}
use mathlib.Core.Bool.{Bool, true, false, cond}
use mathlib.Core.List.{List, [], ◌∷◌, ◌++◌}
use Prim.Native.Nat.{ℕ, zero, suc, ◌+◌, ◌-◌, ◌*◌, ◌≤◌, ◌<◌}
use native.Mathlib.Nat.{zero-mul, mul-le-mul_right}
use native.Mathlib.Decide.{dec_le}
use native.Mathlib.Omega.{arith}
use lib.ListN.{length, get_or}
use lib.Dec.{ltb}
use lib.Ieee.{Float, binary64, add, neg}
use borrow.Author.Tests.{eq-eqb, ne_eqb, lt-ltb, ltb-true}
use Rattle.columns.specs.Lists.{each, joined, layered, when}
use Rattle.columns.specs.Places.{position, one, half}
use Rattle.columns.specs.declared.VisualizePosition.{VisualizePosition}
use Rattle.columns.proofs.Counting.{times_next, length-each}
use Rattle.codes_writers.specs.Edges.{Ends, float, straight_edges}
use Rattle.codes_planar.specs.Planar.{planar_across, layer_vertex, row_edges, planar_row, planar_layer}
use Rattle.codes_circuit.specs.Circuit.{circuit_cell, circuit_row, circuit_gap}
use Rattle.codes_layers.specs.Codes.{rows, width, layer_size, vertex_of, layer_edges, gap_edges, edges_of}
use Rattle.codes_layers.proofs.ByKind.{planar-layers, circuit-gaps}
use Rattle.codes_layers.proofs.Accepted.{Accepted}
use Rattle.codes_graphs.proofs.Parts.{Has, has_first, has-then, has-joined, starts-at}
use Rattle.codes_graphs.proofs.AllEdges.{vertices_are}
use Rattle.codes_graphs.proofs.Straight.{row_first, turned-first, along_row}
use Rattle.codes_rotated.specs.Rotated.{rotated_width, rotated_edge, rotated_row}
use Rattle.codes_layers.proofs.Counted.{row_count}
use Rattle.weights_diagonal.specs.Diagonal.{is_diagonal}
use Rattle.codes_calls.specs.Probabilities.{position_of}
use Rattle.codes_calls.proofs.Distances.{along, to_left, to_next_row, to_next_layer}
use Rattle.codes_calls.proofs.Positions.{position_at}

-- ---- what every element of a list has

abbrev All : {A : Type 0} (P : A → Type 0) → List A → Type 0
All P [] = Unit {0}
All P (x ∷ xs) = P x × All P xs

module _ {A : Type 0} (P : A → Type 0) where
  all_append : (xs ys : List A) → All P xs → All P ys → All P (xs ++ ys)
  all_append [] ys p q = q
  all_append (x ∷ xs) ys p q = (p.0, all_append xs ys p.1 q)

  all-each : (n : ℕ) (f : ℕ → A) → ((i : ℕ) → i < n → P (f i)) → All P (each n f)
  unfolding each
  all-each zero f h = tt
  all-each (suc n) f h = all_append (each n f) (f n ∷ []) (all-each n f (λ i l. h i (omega arith))) (h n (omega arith), tt)

  all-joined : (n : ℕ) (f : ℕ → List A) → ((i : ℕ) → i < n → All P (f i)) → All P (joined n f)
  unfolding joined
  all-joined zero f h = tt
  all-joined (suc n) f h = all_append (joined n f) (f n) (all-joined n f (λ i l. h i (omega arith))) (h n (omega arith))

  all-at : (xs : List A) (x₀ : A) (k : ℕ) → All P xs → k < length xs → P (get_or xs k x₀)
  all-at [] x₀ k p h = absurd (omega arith)
  all-at (x ∷ xs) x₀ zero p h = p.0
  all-at (x ∷ xs) x₀ (suc k) p h = all-at xs x₀ k p.1 (omega arith)

-- ---- kind 4

abbrev pub diagonal_edge : (kind d rounds : ℕ) → Ends → Bool
diagonal_edge kind d rounds e = is_diagonal (position_of kind d rounds e.0) (position_of kind d rounds e.1)

module _ (d rounds : ℕ) (ok : Accepted 4 d rounds) where
  three : 3 ≤ d
  three = ok.distance.three

  size : layer_size 4 d ≡ d * (d + 1)
  unfolding rows width
  size = refl

  few : d < 64
  few = elim (dec_le 64 d) [
    | yes h ↦ absurd (omega (arith, vertices_are 4 d rounds ok, times_next rounds (layer_size 4 d), size, mul-le-mul_right {m = 64} {n = d} (d + 1) h, ok.few_vertices))
    | no h ↦ omega arith
  ]

  -- the place of a row, and its left vertex
  inner-across : (i : ℕ) → i < d → planar_across d i ≡ float i
  unfolding planar_across
  inner-across i h = simp (ne_eqb i d (λ q. omega arith))

  left_is : planar_across d d ≡ neg one
  unfolding planar_across
  left_is = simp (eq-eqb d d refl)

  deep : (t row i : ℕ) → (vertex_of 4 d t row i).position ≡ position (float row) (add binary64 (planar_across d i) half) (float t)
  unfolding vertex_of layer_vertex
  deep t row i = refl

  module _ (t : ℕ) (ht : t < rounds + 1) where
    place : (row i v : ℕ) → row < d → i < d → v ≡ t * (d * (d + 1)) + row * (d + 1) + i → position_of 4 d rounds v ≡ position (float row) (add binary64 (float i) half) (float t)
    unfolding rows width
    place row i v hr hi e =
        position_at 4 d rounds t row i v ht hr (omega arith) e ∙ deep t row i ∙ ap (λ (x : Float). position (float row) (add binary64 x half) (float t)) (inner-across i hi)

    left-place : (row v : ℕ) → row < d → v ≡ t * (d * (d + 1)) + row * (d + 1) + d → position_of 4 d rounds v ≡ position (float row) (add binary64 (neg one) half) (float t)
    unfolding rows width
    left-place row v hr e =
        position_at 4 d rounds t row d v ht hr (omega arith) e ∙ deep t row d ∙ ap (λ (x : Float). position (float row) (add binary64 x half) (float t)) left_is

  by-places : (a b : ℕ) (x y : VisualizePosition) (r : Bool) → position_of 4 d rounds a ≡ x → position_of 4 d rounds b ≡ y → is_diagonal x y ≡ r → diagonal_edge 4 d rounds (a, b) ≡ r
  by-places a b x y r p q e = (λ k. is_diagonal (p k) (q k)) ∙ e

  Plain : Ends → Type 0
  Plain e = diagonal_edge 4 d rounds e ≡ false

  -- a layer below the 64th
  module _ (t : ℕ) (ht : t < rounds + 1) (low : t < 64) where
    abbrev base : ℕ
    base = t * (d * (d + 1))

    row_plain : (row : ℕ) → row < d → All Plain (row_edges d (base + row * (d + 1)))
    unfolding row_edges Plain
    row_plain row hr =
        all_append Plain (each (d - 1) (λ i. (base + row * (d + 1) + i, base + row * (d + 1) + i + 1))) ((base + row * (d + 1), base + row * (d + 1) + d) ∷ [])
        (all-each Plain (d - 1) (λ i. (base + row * (d + 1) + i, base + row * (d + 1) + i + 1)) (λ i h.
        by-places _ _ _ _ false (place t ht row i _ hr (omega arith) refl) (place t ht row (i + 1) _ hr (omega arith) (omega arith)) (along row i t (omega (arith, few)) (omega (arith, few)) low)))
        (by-places _ _ _ _ false (place t ht row 0 _ hr (omega (arith, three)) (omega arith)) (left-place t ht row _ hr refl) (to_left row t (omega (arith, few)) low), tt)

    line_plain : (row : ℕ) → row < d → All Plain (planar_row d base row)
    unfolding planar_row straight_edges Plain
    line_plain row hr = all_append Plain (row_edges d (base + row * (d + 1))) _ (row_plain row hr) (go (ltb (row + 1) d) refl)
      where
        go : (b : Bool) → ltb (row + 1) d ≡ b → All Plain (cond b (straight_edges (d - 1) (base + row * (d + 1)) (d + 1)) [])
        go false e = tt
        go true e =
            let more : row + 1 < d = ltb-true (row + 1) d e in
            all-each Plain (d - 1) (λ i. (base + row * (d + 1) + i, base + row * (d + 1) + i + (d + 1))) (λ i h.
            by-places _ _ _ _ false (place t ht row i _ hr (omega arith) refl) (place t ht (row + 1) i _ more (omega arith) (omega (arith, times_next row (d + 1)))) (to_next_row row i t (omega (arith, few)) (omega (arith, few)) low))

    inside-plain : All Plain (planar_layer d base)
    unfolding planar_layer
    inside-plain = all-joined Plain d (λ row. planar_row d base row) line_plain

    layer-plain : All Plain (layer_edges 4 d (t * layer_size 4 d))
    unfolding rows width
    layer-plain = subst (λ (es : List Ends). All Plain es) (sym (planar-layers 4 d base (λ q. omega arith) (omega arith))) inside-plain

  -- no rounds: no edge is diagonal
  flat-plain : All Plain (edges_of 4 d 0)
  unfolding edges_of layered joined
  flat-plain = layer-plain 0 (omega arith) (omega arith)

  pub none-diagonal : rounds ≡ 0 → (k : ℕ) → k < length (edges_of 4 d rounds) → diagonal_edge 4 d rounds (get_or (edges_of 4 d rounds) k (0, 0)) ≡ false
  unfolding Plain
  none-diagonal z k h = all-at Plain (edges_of 4 d rounds) (0, 0) k (subst (λ (n : ℕ). All Plain (edges_of 4 d n)) (sym z) flat-plain) h

  -- the first edge is not diagonal
  pub first_plain : (diagonal_edge 4 d rounds (get_or (edges_of 4 d rounds) 0 (0, 0)) ≡ false) × (1 ≤ length (edges_of 4 d rounds))
  first_plain =
      let s = starts-at (row_edges d 0) (edges_of 4 d rounds) (0, 0) 0 (row_first 4 d rounds ok (omega arith)) (omega (arith, row_count d 0 (omega (arith, three)), three)) in
      let is : get_or (edges_of 4 d rounds) 0 (0, 0) ≡ (0, 0 + 1) = s.0 ∙ along_row d 0 (omega (arith, three)) in (
        ap (diagonal_edge 4 d rounds) is
            ∙ by-places 0 (0 + 1) _ _ false (place 0 (omega arith) 0 0 0 (omega (arith, three)) (omega (arith, three)) (omega (arith, zero-mul (d * (d + 1)), zero-mul (d + 1))))
            (place 0 (omega arith) 0 (0 + 1) (0 + 1) (omega (arith, three)) (omega (arith, three)) (omega (arith, zero-mul (d * (d + 1)), zero-mul (d + 1)))) (along 0 0 0 (omega arith) (omega arith) (omega arith)),
        s.1,
      )

  -- one round or more: the edge to the next place of the next layer
  abbrev bias : ℕ
  bias = 0 * (d * (d + 1)) + 0 * (d + 1)

  abbrev edge : Ends
  edge = (bias + 0, bias + 0 + (1 + d * (d + 1)))

  in_cell : Has (0, 0) edge (circuit_cell d (d * (d + 1)) bias 0 0)
  unfolding circuit_cell
  in_cell =
      has-then (0, 0) edge ((bias + 0, bias + 0 + d * (d + 1)) ∷ []) _ (has_first (0, 0) edge (when (ltb (0 + 1) (d - 1)) edge) _
      (subst (λ (b : Bool). Has (0, 0) edge (when b edge)) (sym (lt-ltb (0 + 1) (d - 1) (omega (arith, three)))) (record { place = 0; in_list = omega arith; is = refl })))

  in-gap : Has (0, 0) edge (circuit_gap d (0 * (d * (d + 1))))
  unfolding circuit_gap circuit_row
  in-gap =
      has-joined (0, 0) edge d (λ row. circuit_row d (d * (d + 1)) (0 * (d * (d + 1))) row) 0 (omega (arith, three))
      (has-joined (0, 0) edge (d - 1) (λ i. circuit_cell d (d * (d + 1)) (0 * (d * (d + 1)) + 0 * (d + 1)) 0 i) 0 (omega (arith, three)) in_cell)

  in-gaps : Has (0, 0) edge (gap_edges 4 d (0 * layer_size 4 d))
  unfolding rows width
  in-gaps = subst (λ (es : List Ends). Has (0, 0) edge es) (sym (circuit-gaps 4 d (0 * (d * (d + 1))) refl)) in-gap

  there : 0 < rounds → Has (0, 0) edge (edges_of 4 d rounds)
  unfolding edges_of layered
  there more =
      has_first (0, 0) edge (joined rounds (λ t. layer_edges 4 d (t * layer_size 4 d) ++ gap_edges 4 d (t * layer_size 4 d))) (layer_edges 4 d (rounds * layer_size 4 d))
      (has-joined (0, 0) edge rounds (λ t. layer_edges 4 d (t * layer_size 4 d) ++ gap_edges 4 d (t * layer_size 4 d)) 0 more
      (has-then (0, 0) edge (layer_edges 4 d (0 * layer_size 4 d)) (gap_edges 4 d (0 * layer_size 4 d)) in-gaps))

  is-diagonal : 0 < rounds → diagonal_edge 4 d rounds edge ≡ true
  is-diagonal more =
      by-places (bias + 0) (bias + 0 + (1 + d * (d + 1))) _ _ true (place 0 (omega arith) 0 0 _ (omega (arith, three)) (omega (arith, three)) refl)
      (place (0 + 1) (omega arith) 0 (0 + 1) _ (omega (arith, three)) (omega (arith, three)) (omega (arith, times_next 0 (d * (d + 1))))) (to_next_layer 0 0 0 (omega arith) (omega arith) (omega arith))

  pub some-diagonal : 0 < rounds → (k : ℕ) × ((k < length (edges_of 4 d rounds)) × (diagonal_edge 4 d rounds (get_or (edges_of 4 d rounds) k (0, 0)) ≡ true))
  some-diagonal more = ((there more).place, ((there more).in_list, ap (diagonal_edge 4 d rounds) (there more).is ∙ is-diagonal more))

-- every code has an edge
pub some_edge : (kind d rounds : ℕ) → Accepted kind d rounds → 1 ≤ length (edges_of kind d rounds)
unfolding rotated_row
some_edge kind d rounds ok = elim (dec_le kind 4) [
  | yes h ↦ (starts-at (row_edges d 0) (edges_of kind d rounds) (0, 0) 0 (row_first kind d rounds ok h) (omega (arith, row_count d 0 (omega (arith, ok.distance.three)), ok.distance.three))).1
  | no h ↦ (starts-at (rotated_row d 0 0) (edges_of kind d rounds) (0, 0) 0 (turned-first kind d rounds ok (omega arith)) (omega (arith, length-each d (λ i. rotated_edge (rotated_width d) (0 + 0 * rotated_width d) 0 i), ok.distance.three))).1
]
