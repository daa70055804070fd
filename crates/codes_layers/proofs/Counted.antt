-- The lists of edges and vertices are as long as document 01's formulas say. Assumes nothing.
use mathlib.Core.Path.{◌≡◌, sym, ap, ◌∙◌}
use mathlib.Core.Bool.{true, false}
use mathlib.Core.List.{List, ◌++◌}
use Prim.Native.Nat.{ℕ, ◌+◌, ◌-◌, ◌*◌, ◌/◌, ◌%◌, ◌≤◌, ◌<◌}
use native.Mathlib.Nat.{mul-add, add-mul, mul_assoc, mul_comm, le_refl}
use native.Mathlib.Decide.{ℕ_discrete, dec_le}
use native.Mathlib.Omega.{arith}
use lib.ListN.{length, length-append}
use lib.Dec.{ltb}
use borrow.Author.Tests.{eq-eqb, ne_eqb, le-leb, lt-leb, lt-ltb, le-ltb}
use Rattle.columns.specs.Lists.{joined, layered}
use Rattle.columns.proofs.Counting.{length-each, length-joined, joined-more, times_next}
use Rattle.codes_writers.specs.Edges.{Ends, straight_edges, straight_rows}
use Rattle.codes_planar.specs.Planar.{planar_size, row_edges, planar_row, planar_layer, planar_gap}
use Rattle.codes_circuit.specs.Circuit.{circuit_cell, circuit_row, circuit_gap}
use Rattle.codes_rotated.specs.Rotated.{rotated_width, rotated_size, rotated_row, rotated_layer, rotated_gap}
use Rattle.codes_layers.specs.Codes.{layer_size, layer_edges, gap_edges, edges_of, vertices_of}
use Rattle.codes_layers.specs.Counts.{layer_vertex_num, vertex_num, layer_edge_num, gap_edge_num, edge_num}
use Rattle.codes_layers.proofs.ByKind.{one-row, planar-rows, rotated-rows, one-layer, planar-layers, rotated-layers, planar-gaps, circuit-gaps, rotated-gaps, no_gaps, layers_counted}

-- ---- rows, layers and gaps

pub row_count : (d bias : ℕ) → 1 ≤ d → length (row_edges d bias) ≡ d
unfolding row_edges
row_count d bias h = simp (length-append, length-each) (omega arith)

-- n lists of k and a last one of l
last_count : {A : Type 0} (n k l : ℕ) (f : ℕ → List A) → ((i : ℕ) → i < n → length (f i) ≡ k) → length (f n) ≡ l → length (joined (n + 1) f) ≡ n * k + l
last_count n k l f h e = rw joined-more (omega (arith, length-append (joined n f) (f n), length-joined n k f h))

-- d is m + 1
planar_layer-count : (m base : ℕ) → length (planar_layer (m + 1) base) ≡ (m + 1) * (m + 1) + m * m
unfolding planar_layer planar_row straight_edges
planar_layer-count m base =
    last_count m (m + 1 + m) (m + 1) (λ row. planar_row (m + 1) base row) line last
    ∙ omega (arith, mul-add m (m + 1) m, mul-add m m 1, times_next m (m + 1))
  where
    line : (row : ℕ) → row < m → length (planar_row (m + 1) base row) ≡ m + 1 + m
    line row h =
        simp (lt-ltb (row + 1) (m + 1) (omega arith), length-append, length-each)
        (omega (arith, row_count (m + 1) (base + row * (m + 1 + 1)) (omega arith)))

    last : length (planar_row (m + 1) base m) ≡ m + 1
    last = simp (le-ltb (m + 1) (m + 1) (le_refl _), length-append) (omega (arith, row_count (m + 1) (base + m * (m + 1 + 1)) (omega arith)))

straight_count : (rows n w base far : ℕ) → length (straight_rows rows n w base far) ≡ rows * n
unfolding straight_rows straight_edges
straight_count rows n w base far = length-joined rows n (λ row. straight_edges n (base + row * w) far) (λ row h. length-each n _)

rotated_layer-count : (d base : ℕ) → length (rotated_layer d base) ≡ d * d
unfolding rotated_layer rotated_row
rotated_layer-count d base = length-joined d d (λ row. rotated_row d base row) (λ row h. length-each d _)

-- a gap of kind 4; d is m + 2
module _ (m s b row i : ℕ) where
  across-yes : i < m → ltb (i + 1) (m + 2 - 1) ≡ true
  across-yes h = lt-ltb (i + 1) (m + 2 - 1) (omega arith)

  across-no : m ≤ i → ltb (i + 1) (m + 2 - 1) ≡ false
  across-no h = le-ltb (i + 1) (m + 2 - 1) (omega arith)

  four : i < m → row + 1 < m + 2 → length (circuit_cell (m + 2) s b row i) ≡ 4
  unfolding circuit_cell
  four h k = simp (across-yes h, lt-ltb (row + 1) (m + 2) k)

  two-end : m ≤ i → row + 1 < m + 2 → length (circuit_cell (m + 2) s b row i) ≡ 2
  unfolding circuit_cell
  two-end h k = simp (across-no h, lt-ltb (row + 1) (m + 2) k)

  two-low : i < m → m + 2 ≤ row + 1 → length (circuit_cell (m + 2) s b row i) ≡ 2
  unfolding circuit_cell
  two-low h k = simp (across-yes h, le-ltb (row + 1) (m + 2) k)

  one : m ≤ i → m + 2 ≤ row + 1 → length (circuit_cell (m + 2) s b row i) ≡ 1
  unfolding circuit_cell
  one h k = simp (across-no h, le-ltb (row + 1) (m + 2) k)

less_one : (m : ℕ) → m + 2 - 1 ≡ m + 1
less_one m = omega arith

circuit_row-count : (m s base row k l : ℕ) → ((i b : ℕ) → i < m → length (circuit_cell (m + 2) s b row i) ≡ k) → ((b : ℕ) → length (circuit_cell (m + 2) s b row m) ≡ l) → length (circuit_row (m + 2) s base row) ≡ m * k + l
unfolding circuit_row
circuit_row-count m s base row k l h e = rw less_one (last_count m k l (λ i. circuit_cell (m + 2) s (base + row * (m + 2 + 1)) row i) (λ i g. h i (base + row * (m + 2 + 1)) g) (e (base + row * (m + 2 + 1))))

circuit_gap-count : (m base : ℕ) → length (circuit_gap (m + 2) base) ≡ (m + 2) * (m + 1) + (m + 2) * m + (m + 1) * (m + 1) + (m + 1) * m
unfolding circuit_gap
circuit_gap-count m base =
    ap (λ (n : ℕ). length (joined n f)) (omega arith) ∙ last_count (m + 1) (m * 4 + 2) (m * 2 + 1) f
    (λ row h. circuit_row-count m _ base row 4 2 (λ i b l. four m _ b row i l (omega arith)) (λ b. two-end m _ b row m (le_refl m) (omega arith)))
    (circuit_row-count m _ base (m + 1) 2 1 (λ i b l. two-low m _ b (m + 1) i l (omega arith)) (λ b. one m _ b (m + 1) m (le_refl m) (omega arith)))
    ∙ omega (arith, times_next m (m * 4 + 2), mul-add m (m * 4) 2, mul_assoc m m 4, add-mul m 2 (m + 1), mul-add m m 1, add-mul m 2 m, times_next m (m + 1), times_next m m)
  where
    f : ℕ → List Ends
    f row = circuit_row (m + 2) ((m + 2) * (m + 2 + 1)) base row

-- ---- by kind

module _ (kind d : ℕ) (three : 3 ≤ d) where
  -- the formula for the vertices of a layer
  pub layer-size : layer_vertex_num kind d ≡ layer_size kind d
  unfolding layer_vertex_num
  layer-size = elim (ℕ_discrete kind 1) [
    | yes e ↦ simp (eq-eqb _ _ e) (sym (one-row kind d e))
    | no f ↦ elim (dec_le kind 4) [
      | yes h ↦ simp (ne_eqb _ _ f, le-leb _ _ h) (sym (planar-rows kind d f h))
      | no h ↦
          let w : (d + 1) / 2 ≡ rotated_width d = omega arith in
          simp (ne_eqb _ _ f, lt-leb kind 4 (omega arith)) (ap (λ (n : ℕ). n * (d + 1)) w ∙ mul_comm (rotated_width d) (d + 1) ∙ sym (rotated-rows kind d (omega arith)))
    ]
  ]

  pub layer-edges-count : (base : ℕ) → length (layer_edges kind d base) ≡ layer_edge_num kind d
  unfolding layer_edge_num
  layer-edges-count base = elim (ℕ_discrete kind 1) [
    | yes e ↦ simp (eq-eqb _ _ e) (ap length (one-layer kind d base e) ∙ row_count d base (omega arith))
    | no f ↦ elim (dec_le kind 4) [
      | yes h ↦
          let d-is : d ≡ d - 1 + 1 = omega arith in
          simp (ne_eqb _ _ f, le-leb _ _ h) (ap length (planar-layers kind d base f h) ∙ ap (λ (n : ℕ). length (planar_layer n base)) d-is ∙ planar_layer-count (d - 1) base
          ∙ ap (λ (n : ℕ). n * n + (d - 1) * (d - 1)) (sym d-is))
      | no h ↦ simp (ne_eqb _ _ f, lt-leb kind 4 (omega arith)) (ap length (rotated-layers kind d base (omega arith)) ∙ rotated_layer-count d base)
    ]
  ]

  pub gap-edges-count : (base : ℕ) → length (gap_edges kind d base) ≡ gap_edge_num kind d
  unfolding gap_edge_num planar_gap rotated_gap
  gap-edges-count base = elim (ℕ_discrete kind 3) [
    | yes e ↦ simp (eq-eqb _ _ e) (ap length (planar-gaps kind d base e) ∙ straight_count d (d - 1) (d + 1) base (planar_size d))
    | no f ↦ elim (ℕ_discrete kind 4) [
      | yes e ↦
          let d-is : d ≡ d - 2 + 2 = omega arith in
          let less : d - 1 ≡ d - 2 + 1 = omega arith in
          simp (ne_eqb _ _ f, eq-eqb _ _ e) (ap length (circuit-gaps kind d base e) ∙ ap (λ (n : ℕ). length (circuit_gap n base)) d-is ∙ circuit_gap-count (d - 2) base
          ∙ sym (λ k. d-is k * less k + d-is k * (d - 2) + less k * less k + less k * (d - 2)))
      | no g ↦ elim (ℕ_discrete kind 6) [
        | yes e ↦ simp (ne_eqb _ _ f, ne_eqb _ _ g, eq-eqb _ _ e)
            (ap length (rotated-gaps kind d base e) ∙ straight_count (d + 1) (rotated_width d) (rotated_width d) base (rotated_size d) ∙ sym (layer-size ∙ rotated-rows kind d (omega arith)))
        | no h ↦ simp (ne_eqb _ _ f, ne_eqb _ _ g, ne_eqb _ _ h) (ap length (no_gaps kind d base f g h))
      ]
    ]
  ]

  module _ (rounds : ℕ) where
    pub vertices-counted : length (vertices_of kind d rounds) ≡ vertex_num kind d rounds
    unfolding vertices_of
    vertices-counted = layers_counted kind d (rounds + 1) ∙ ap (λ (n : ℕ). (rounds + 1) * n) (sym layer-size)

    pub edges-counted : length (edges_of kind d rounds) ≡ edge_num kind d rounds
    unfolding edges_of layered
    edges-counted =
        length-append (joined rounds part) (layer_edges kind d (rounds * layer_size kind d))
        ∙ omega (
          arith,
          length-joined rounds (layer_edge_num kind d + gap_edge_num kind d) part (λ t h. length-append (layer_edges kind d (t * layer_size kind d)) (gap_edges kind d (t * layer_size kind d))
              ∙ λ k. layer-edges-count (t * layer_size kind d) k + gap-edges-count (t * layer_size kind d) k),
          layer-edges-count (rounds * layer_size kind d),
          mul-add rounds (layer_edge_num kind d) (gap_edge_num kind d),
          times_next rounds (layer_edge_num kind d),
        )
      where
        part : ℕ → List Ends
        part t = layer_edges kind d (t * layer_size kind d) ++ gap_edges kind d (t * layer_size kind d)
