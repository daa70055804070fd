-- CodeCapacityRepetitionCode, CodeCapacityPlanarCode, PhenomenologicalPlanarCode: rows of d + 1 places, in the order of the Rust.
-- Places 0 to d - 2 of a row are inner, place d - 1 is right, place d is left.
use Rattle.std.specs.Prelude.{ℕ, ◌+◌, ◌-◌, ◌*◌, cond, List, [], ◌∷◌, ◌++◌, eqb, ltb, Float}
use Rattle.std.specs.Float.{binary64}
use Rattle.std.specs.Float.Ieee.{add, neg}
use Rattle.columns.specs.Limits.{inner, left, right}
use Rattle.columns.specs.Lists.{each, joined}
use Rattle.columns.specs.Places.{zero_float, one, half, position}
use Rattle.codes_writers.specs.declared.CodeVertex.{CodeVertex}
use Rattle.codes_writers.specs.Edges.{Ends, float, straight_edges, straight_rows}

-- Six builders, Vertices: a layer of kinds 2, 3 and 4 has d(d+1), d rows of d + 1 places.
abbrev pub planar_size : ℕ → ℕ
planar_size d = d * (d + 1)

-- Six builders, Edge order: the edges along a row that starts at vertex bias, then the left most edge; kind 1 is one such row.
unfoldable pub row_edges : (d bias : ℕ) → List Ends
row_edges d bias = each (d - 1) (λ i. (bias + i, bias + i + 1)) ++ ((bias, bias + d) ∷ [])

-- Six builders, Edge order, kinds 2, 3 and 4: a row of a layer that starts at vertex base, and the edges from its inner places to the next row.
unfoldable pub planar_row : (d base row : ℕ) → List Ends
planar_row d base row =
    row_edges d (base + row * (d + 1)) ++ cond (ltb (row + 1) d) (straight_edges (d - 1) (base + row * (d + 1)) (d + 1)) []

-- Six builders, Edge order, kinds 2, 3 and 4: the edges of the layer that starts at vertex base.
unfoldable pub planar_layer : (d base : ℕ) → List Ends
planar_layer d base = joined d (λ row. planar_row d base row)

-- Six builders, Edge order, kind 3: from each inner place of the layer to the same place of the next layer.
unfoldable pub planar_gap : (d base : ℕ) → List Ends
planar_gap d base = straight_rows d (d - 1) (d + 1) base (planar_size d)

-- ---- vertices

-- Six builders, on left and right, sentences 1 and 2: the boundary byte of place j of a row.
unfoldable pub planar_boundary : (d j : ℕ) → ℕ
planar_boundary d j = cond (eqb j d) left (cond (eqb (j + 1) d) right inner)

-- Six builders, on positions, kinds 1 to 4: where place j is across; the left one stands before the first.
unfoldable pub planar_across : (d j : ℕ) → Float
planar_across d j = cond (eqb j d) (neg one) (float j)

-- Six builders, on positions and on left and right, kinds 1 and 2: place j of a row.
unfoldable pub capacity_vertex : (d row j : ℕ) → CodeVertex
capacity_vertex d row j = record { boundary = planar_boundary d j; position = position (float row) (planar_across d j) zero_float }

-- Six builders, on positions and on left and right, kinds 3 and 4: the same in layer t, shifted across by 1/2.
unfoldable pub layer_vertex : (d row j t : ℕ) → CodeVertex
layer_vertex d row j t = record { boundary = planar_boundary d j; position = position (float row) (add binary64 (planar_across d j) half) (float t) }
