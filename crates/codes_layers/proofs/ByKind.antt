-- The definitions by kind. Assumes nothing.
use mathlib.Core.Path.{◌≡◌, ap}
use mathlib.Core.List.{[]}
use Prim.Native.Nat.{ℕ, ◌+◌, ◌-◌, ◌*◌, ◌/◌, ◌≤◌, ◌<◌}
use native.Mathlib.Nat.{mul-le-mul}
use native.Mathlib.Omega.{arith}
use borrow.Author.Tests.{eq-eqb, ne_eqb, le-leb, lt-leb}
use Rattle.codes_writers.proofs.Wrote.{row_room}
use Rattle.codes_planar.specs.Planar.{row_edges, planar_layer, planar_gap}
use Rattle.codes_circuit.specs.Circuit.{circuit_gap}
use Rattle.codes_rotated.specs.Rotated.{rotated_width, rotated_layer, rotated_gap}
use Rattle.columns.specs.Lists.{each, joined}
use Rattle.columns.proofs.Counting.{length-each, length-joined}
use lib.ListN.{length}
use Rattle.codes_layers.specs.Codes.{rows, width, layer_size, layer_edges, gap_edges, vertex_of, layer_vertices}

-- products of numbers below 4,096
pub few : (a b m n : ℕ) → a ≤ m → b ≤ n → a * b ≤ m * n
few a b m n h k = mul-le-mul h k

module _ (kind d : ℕ) where
  -- rows and widths
  pub one-row : kind ≡ 1 → layer_size kind d ≡ d + 1
  unfolding rows width
  one-row e = rw e (omega arith)

  pub planar-rows : (kind ≡ 1 → ⊥) → kind ≤ 4 → layer_size kind d ≡ d * (d + 1)
  unfolding rows width
  planar-rows f h = simp (ne_eqb _ _ f, le-leb _ _ h)

  pub rotated-rows : 4 < kind → layer_size kind d ≡ (d + 1) * rotated_width d
  unfolding rows width
  rotated-rows h = simp (ne_eqb kind 1 (omega arith), lt-leb _ _ h)

  module _ (base : ℕ) where
    -- layers
    pub one-layer : kind ≡ 1 → layer_edges kind d base ≡ row_edges d base
    unfolding layer_edges
    one-layer e = simp (eq-eqb _ _ e)

    pub planar-layers : (kind ≡ 1 → ⊥) → kind ≤ 4 → layer_edges kind d base ≡ planar_layer d base
    unfolding layer_edges
    planar-layers f h = simp (ne_eqb _ _ f, le-leb _ _ h)

    pub rotated-layers : 4 < kind → layer_edges kind d base ≡ rotated_layer d base
    unfolding layer_edges
    rotated-layers h = simp (ne_eqb kind 1 (omega arith), lt-leb _ _ h)

    -- gaps
    pub planar-gaps : kind ≡ 3 → gap_edges kind d base ≡ planar_gap d base
    unfolding gap_edges
    planar-gaps e = simp (eq-eqb _ _ e)

    pub circuit-gaps : kind ≡ 4 → gap_edges kind d base ≡ circuit_gap d base
    unfolding gap_edges
    circuit-gaps e = simp (ne_eqb kind 3 (λ q. omega arith), eq-eqb _ _ e)

    pub rotated-gaps : kind ≡ 6 → gap_edges kind d base ≡ rotated_gap d base
    unfolding gap_edges
    rotated-gaps e = simp (ne_eqb kind 3 (λ q. omega arith), ne_eqb kind 4 (λ q. omega arith), eq-eqb _ _ e)

    pub no_gaps : (kind ≡ 3 → ⊥) → (kind ≡ 4 → ⊥) → (kind ≡ 6 → ⊥) → gap_edges kind d base ≡ []
    unfolding gap_edges
    no_gaps f g h = simp (ne_eqb _ _ f, ne_eqb _ _ g, ne_eqb _ _ h)

-- layer t of rounds + 1 layers of a size lies within them
pub layer_in : (rounds t ls : ℕ) {size : ℕ} → size ≡ ls → t < rounds + 1 → (rounds + 1) * ls ≤ 4096 → (t * size ≤ 4096) × ((t * size + ls ≤ 4096) × (ls ≤ 4096))
layer_in rounds t ls e h few = omega (arith, ap (λ (n : ℕ). t * n) e, row_room (rounds + 1) ls h)

-- rows and layers of vertices, counted
pub rows_counted : (kind d t n : ℕ) → length (joined n (λ row. each (width kind d) (λ i. vertex_of kind d t row i))) ≡ n * width kind d
rows_counted kind d t n = length-joined n (width kind d) (λ row. each (width kind d) (λ i. vertex_of kind d t row i)) (λ row h. length-each (width kind d) (λ i. vertex_of kind d t row i))

pub layer_counted : (kind d t : ℕ) → length (layer_vertices kind d t) ≡ layer_size kind d
unfolding layer_vertices
layer_counted kind d t = rows_counted kind d t (rows kind d)

pub layers_counted : (kind d n : ℕ) → length (joined n (λ t. layer_vertices kind d t)) ≡ n * layer_size kind d
layers_counted kind d n = length-joined n (layer_size kind d) (λ t. layer_vertices kind d t) (λ t h. layer_counted kind d t)
