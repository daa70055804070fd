-- The six kinds of document 01: 1 CodeCapacityRepetitionCode, 2 CodeCapacityPlanarCode, 3 PhenomenologicalPlanarCode,
-- 4 CircuitLevelPlanarCode, 5 CodeCapacityRotatedCode, 6 PhenomenologicalRotatedCode. There are rounds + 1 layers.
use Rattle.std.specs.Prelude.{ℕ, ◌+◌, ◌*◌, cond, List, [], eqb, leb}
use Rattle.columns.specs.Lists.{each, joined, layered}
use Rattle.columns.specs.Places.{zero_float}
use Rattle.codes_writers.specs.declared.CodeVertex.{CodeVertex}
use Rattle.codes_writers.specs.Edges.{Ends}
use Rattle.codes_planar.specs.Planar.{row_edges, planar_layer, planar_gap, capacity_vertex, layer_vertex}
use Rattle.codes_circuit.specs.Circuit.{circuit_gap}
use Rattle.codes_rotated.specs.Rotated.{rotated_width, rotated_time, rotated_layer, rotated_gap, rotated_vertex}

-- Six builders, Vertices: rows of a layer.
unfoldable pub rows : (kind d : ℕ) → ℕ
rows kind d = cond (eqb kind 1) 1 (cond (leb kind 4) d (d + 1))

-- Six builders, Vertices: places of a row.
unfoldable pub width : (kind d : ℕ) → ℕ
width kind d = cond (leb kind 4) (d + 1) (rotated_width d)

-- Six builders, Vertices: vertices of a layer, by its rows and their places.
abbrev pub layer_size : (kind d : ℕ) → ℕ
layer_size kind d = rows kind d * width kind d

-- Six builders, Edge order: the edges of the layer that starts at vertex base.
unfoldable pub layer_edges : (kind d base : ℕ) → List Ends
layer_edges kind d base = cond (eqb kind 1) (row_edges d base) (cond (leb kind 4) (planar_layer d base) (rotated_layer d base))

-- Six builders, Edge order: the edges between the layer that starts at vertex base and the next.
unfoldable pub gap_edges : (kind d base : ℕ) → List Ends
gap_edges kind d base = cond (eqb kind 3) (planar_gap d base) (cond (eqb kind 4) (circuit_gap d base) (cond (eqb kind 6) (rotated_gap d base) []))

-- Six builders, Edge order: the edges of a code, layer by layer, each layer's gap after it.
unfoldable pub edges_of : (kind d rounds : ℕ) → List Ends
edges_of kind d rounds = layered rounds (λ t. layer_edges kind d (t * layer_size kind d)) (λ t. gap_edges kind d (t * layer_size kind d))

-- Six builders, on positions and on left and right: place i of a row of layer t.
unfoldable pub vertex_of : (kind d t row i : ℕ) → CodeVertex
vertex_of kind d t row i =
    cond (leb kind 2) (capacity_vertex d row i)
    (cond (leb kind 4) (layer_vertex d row i t)
    (rotated_vertex (rotated_width d) row i (cond (eqb kind 6) (rotated_time t) zero_float)))

-- Six builders, on positions and on left and right: the vertices of layer t, row by row.
unfoldable pub layer_vertices : (kind d t : ℕ) → List CodeVertex
layer_vertices kind d t = joined (rows kind d) (λ row. each (width kind d) (λ i. vertex_of kind d t row i))

-- Six builders, on positions and on left and right: the vertices of a code, layer by layer.
unfoldable pub vertices_of : (kind d rounds : ℕ) → List CodeVertex
vertices_of kind d rounds = joined (rounds + 1) (λ t. layer_vertices kind d t)
