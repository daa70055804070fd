-- The boundary bytes of every accepted code: within 0 to 2; a left vertex has height 0, a right one height d. Assumes nothing.
use mathlib.Core.Path.{◌≡◌, refl, sym, ap, ◌∙◌, subst}
use Prim.Native.Nat.{ℕ, ◌+◌, ◌-◌, ◌*◌, ◌/◌, ◌%◌, ◌≤◌, ◌<◌}
use native.Mathlib.Nat.{mul_assoc, add-mul, mul_left_comm}
use native.Mathlib.Decide.{ℕ_discrete, dec_le}
use native.Mathlib.Omega.{arith}
use lib.ListN.{get_or, get_or-map}
use lib.Ieee.{Float}
use borrow.Author.Tests.{eq-eqb, ne_eqb, le-leb, lt-leb}
use Rattle.columns.specs.Lists.{each}
use Rattle.columns.proofs.Counting.{length-each, getD-each}
use Rattle.codes_writers.proofs.Wrote.{row_room}
use Rattle.columns.specs.Places.{zero_float, position}
use Rattle.codes_writers.specs.declared.CodeVertex.{CodeVertex}
use Rattle.codes_writers.specs.Edges.{boundaries}
use Rattle.codes_planar.specs.Planar.{planar_boundary, capacity_vertex, layer_vertex}
use Rattle.codes_rotated.specs.Rotated.{rotated_width, rotated_boundary, rotated_vertex}
use Rattle.codes_layers.specs.Codes.{rows, width, layer_size, vertex_of, layer_vertices, vertices_of}
use Rattle.codes_layers.specs.Counts.{vertex_num}
use Rattle.codes_layers.proofs.ByKind.{layer_counted}
use Rattle.codes_layers.proofs.Counted.{vertices-counted}
use Rattle.codes_layers.proofs.Accepted.{Accepted}
use Rattle.codes_graphs.specs.Graphs.{height, planar_height, rotated_height}
use Rattle.codes_graphs.proofs.Parts.{get_d_joined, Laid, laid_from, laid_each, laid-joined, laid-at}
use Rattle.codes_graphs.proofs.PlanarEdges.{height_at, height-left}
use Rattle.codes_graphs.proofs.RotatedEdges.{height-even, height-odd}
use Rattle.codes_graphs.proofs.AllEdges.{planar_height_lem, rotated_height_lem}

-- the byte and the height of a vertex
pub record Byte (d byte h : ℕ) : Type 0 where
  pub few : byte ≤ 2
  pub left : byte ≡ 1 → h ≡ 0
  pub right : byte ≡ 2 → h ≡ d

flat_byte : (d row j : ℕ) → (capacity_vertex d row j).boundary ≡ planar_boundary d j
unfolding capacity_vertex
flat_byte d row j = refl

deep_byte : (d row j t : ℕ) → (layer_vertex d row j t).boundary ≡ planar_boundary d j
unfolding layer_vertex
deep_byte d row j t = refl

turned_byte : (w row i : ℕ) (time : Float) → (rotated_vertex w row i time).boundary ≡ rotated_boundary w row i
unfolding rotated_vertex
turned_byte w row i time = refl

-- the byte of a place, by kind
pub planar_boundary_lem : (kind d t row i : ℕ) → kind ≤ 4 → (vertex_of kind d t row i).boundary ≡ planar_boundary d i
unfolding vertex_of
planar_boundary_lem kind d t row i k = elim (dec_le kind 2) [
  | yes l ↦ simp (le-leb kind 2 l) (flat_byte d row i)
  | no l ↦ simp (lt-leb kind 2 (omega arith), le-leb kind 4 k) (deep_byte d row i t)
]

pub rotated_boundary_lem : (kind d t row i : ℕ) → 4 < kind → (vertex_of kind d t row i).boundary ≡ rotated_boundary (rotated_width d) row i
unfolding vertex_of
rotated_boundary_lem kind d t row i k = simp (lt-leb kind 2 (omega arith), lt-leb kind 4 k) (turned_byte (rotated_width d) row i _)

planar_byte : (d q j : ℕ) → j < d + 1 → Byte d (planar_boundary d j) (planar_height d (q * (d + 1) + j))
unfolding planar_boundary
planar_byte d q j h = elim (ℕ_discrete j d) [
  | yes e ↦ simp (eq-eqb _ _ e) (record { few = omega arith; left = λ x. ap (λ (n : ℕ). planar_height d (q * (d + 1) + n)) e ∙ height-left d q; right = λ x. absurd (omega arith) })
  | no f ↦ elim (ℕ_discrete (j + 1) d) [
    | yes e ↦ simp (ne_eqb _ _ f, eq-eqb _ _ e) (record { few = omega arith; left = λ x. absurd (omega arith); right = λ x. height_at d q j (omega arith) ∙ e })
    | no g ↦ simp (ne_eqb _ _ f, ne_eqb _ _ g) (record { few = omega arith; left = λ x. absurd (omega arith); right = λ x. absurd (omega arith) })
  ]
]

rotated_byte : (d q row i : ℕ) → d % 2 ≡ 1 → q % 2 ≡ row % 2 → i < rotated_width d → Byte d (rotated_boundary (rotated_width d) row i) (rotated_height d (q * rotated_width d + i))
unfolding rotated_boundary
rotated_byte d q row i odd par h = elim (ℕ_discrete (row % 2) 0) [
  | yes e ↦ elim (ℕ_discrete (i + 1) (rotated_width d)) [
    | yes g ↦ simp (eq-eqb _ _ e, eq-eqb _ _ g) (record { few = omega arith; left = λ x. absurd (omega arith); right = λ x. height-even d odd q i (par ∙ e) h ∙ omega arith })
    | no g ↦ simp (eq-eqb _ _ e, ne_eqb _ _ g) (record { few = omega arith; left = λ x. absurd (omega arith); right = λ x. absurd (omega arith) })
  ]
  | no f ↦ elim (ℕ_discrete i 0) [
    | yes g ↦ simp (ne_eqb _ _ f, eq-eqb _ _ g) (record { few = omega arith; left = λ x. height-odd d odd q i (λ y. f (sym par ∙ y)) h ∙ omega arith; right = λ x. absurd (omega arith) })
    | no g ↦ simp (ne_eqb _ _ f, ne_eqb _ _ g) (record { few = omega arith; left = λ x. absurd (omega arith); right = λ x. absurd (omega arith) })
  ]
]

module _ (kind d rounds : ℕ) (ok : Accepted kind d rounds) where
  Good : ℕ → CodeVertex → Type 0
  Good v x = Byte d x.boundary (height kind d v)

  -- the row, counted through all layers
  line-is : (t row i : ℕ) → t * layer_size kind d + row * width kind d + i ≡ (t * rows kind d + row) * width kind d + i
  line-is t row i = omega (arith, mul_assoc t (rows kind d) (width kind d), add-mul (t * rows kind d) row (width kind d))

  place-good : (t row i : ℕ) → i < width kind d → Good (t * layer_size kind d + row * width kind d + i) (vertex_of kind d t row i)
  unfolding Good vertex_of width rows
  place-good t row i h = elim (dec_le kind 4) [
    | yes k ↦
        let w : width kind d ≡ d + 1 = simp (le-leb _ _ k) in
        let v : t * layer_size kind d + row * width kind d + i ≡ (t * rows kind d + row) * (d + 1) + i = line-is t row i ∙ ap (λ (n : ℕ). (t * rows kind d + row) * n + i) w in
        let z = planar_byte d (t * rows kind d + row) i (omega (arith, w)) in
        let hgt : planar_height d ((t * rows kind d + row) * (d + 1) + i) ≡ height kind d (t * layer_size kind d + row * width kind d + i) = sym (planar_height_lem kind d k _ ∙ ap (planar_height d) v) in
        subst (λ (n : ℕ). Byte d (vertex_of kind d t row i).boundary n) hgt (subst (λ (n : ℕ). Byte d n (planar_height d ((t * rows kind d + row) * (d + 1) + i))) (sym (planar_boundary_lem kind d t row i k)) z)
    | no k ↦
        let w : width kind d ≡ rotated_width d = simp (lt-leb kind 4 (omega arith)) in
        let r : rows kind d ≡ d + 1 = simp (ne_eqb kind 1 (λ q. omega arith), lt-leb kind 4 (omega arith)) in
        let v : t * layer_size kind d + row * width kind d + i ≡ (t * rows kind d + row) * rotated_width d + i = line-is t row i ∙ ap (λ (n : ℕ). (t * rows kind d + row) * n + i) w in
        let par : (t * rows kind d + row) % 2 ≡ row % 2 = ap (λ (n : ℕ). (t * n + row) % 2) r ∙ parity t row in
        let z = rotated_byte d (t * rows kind d + row) row i ok.distance.odd par (omega (arith, w)) in
        let hgt : rotated_height d ((t * rows kind d + row) * rotated_width d + i) ≡ height kind d (t * layer_size kind d + row * width kind d + i) = sym (rotated_height_lem kind d (omega arith) _ ∙ ap (rotated_height d) v) in
        subst (λ (n : ℕ). Byte d (vertex_of kind d t row i).boundary n) hgt (subst (λ (n : ℕ). Byte d n (rotated_height d ((t * rows kind d + row) * rotated_width d + i))) (sym (rotated_boundary_lem kind d t row i (omega arith))) z)
  ]
    where
      parity : (t row : ℕ) → (t * (d + 1) + row) % 2 ≡ row % 2
      parity t row =
          let q : d + 1 ≡ 2 * rotated_width d = omega (arith, ok.distance.odd) in
          omega (arith, ap (λ (m : ℕ). t * m) q, mul_left_comm t 2 (rotated_width d))

  all-good : Laid Good 0 (vertices_of kind d rounds)
  unfolding vertices_of layer_vertices
  all-good =
      laid-joined Good (rounds + 1) 0 (layer_size kind d) (λ t. layer_vertices kind d t) (λ t. layer_counted kind d t) (λ t h.
      laid_from Good (t * layer_size kind d) (0 + t * layer_size kind d) (layer_vertices kind d t) (omega arith)
      (laid-joined Good (rows kind d) (t * layer_size kind d) (width kind d) (λ row. each (width kind d) (λ i. vertex_of kind d t row i)) (λ row. length-each (width kind d) _) (λ row g.
      laid_each Good (width kind d) (t * layer_size kind d + row * width kind d) (λ i. vertex_of kind d t row i) (λ i l. place-good t row i l))))

  abbrev none : CodeVertex
  none = record { boundary = 0; position = position zero_float zero_float zero_float }

  pub byte_at : (v : ℕ) → v < vertex_num kind d rounds → Byte d (get_or (boundaries (vertices_of kind d rounds)) v 0) (height kind d v)
  unfolding Good
  byte_at v h =
      let n = vertices-counted kind d ok.distance.three rounds in
      let z = laid-at Good 0 (vertices_of kind d rounds) none v all-good (omega arith) in
      let e : get_or (boundaries (vertices_of kind d rounds)) v 0 ≡ (get_or (vertices_of kind d rounds) v none).boundary = get_or-map (λ (x : CodeVertex). x.boundary) (vertices_of kind d rounds) v none in
      let f : height kind d (0 + v) ≡ height kind d v = ap (height kind d) (omega arith) in
      subst (λ (b : ℕ). Byte d b (height kind d v)) (sym e) (subst (λ (m : ℕ). Byte d (get_or (vertices_of kind d rounds) v none).boundary m) f z)

  -- the byte of a place
  pub boundary-at : (t row i : ℕ) → t < rounds + 1 → row < rows kind d → i < width kind d
      → get_or (boundaries (vertices_of kind d rounds)) (t * layer_size kind d + row * width kind d + i) 0 ≡ (vertex_of kind d t row i).boundary
  unfolding vertices_of layer_vertices
  boundary-at t row i ht hr hi =
      get_or-map (λ (x : CodeVertex). x.boundary) (vertices_of kind d rounds) (t * layer_size kind d + row * width kind d + i) none
      ∙ ap (λ (x : CodeVertex). x.boundary)
      (get_d_joined (rounds + 1) (layer_size kind d) (λ s. layer_vertices kind d s) t _ (row * width kind d + i) none (λ s. layer_counted kind d s) ht (omega (arith, row_room (rows kind d) (width kind d) hr)) (omega arith)
      ∙ get_d_joined (rows kind d) (width kind d) (λ r. each (width kind d) (λ j. vertex_of kind d t r j)) row _ i none (λ r. length-each (width kind d) _) hr hi refl
      ∙ getD-each (width kind d) (λ j. vertex_of kind d t row j) none i hi)
