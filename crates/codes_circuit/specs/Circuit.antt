-- CircuitLevelPlanarCode: the edges between two layers of d rows of d + 1 places, in the order of the Rust.
-- Within a layer the edges are those of kinds 2 and 3.
use Rattle.std.specs.Prelude.{ℕ, ◌+◌, ◌-◌, ◌*◌, ◌&&◌, List, [], ◌∷◌, ◌++◌, ltb}
use Rattle.columns.specs.Lists.{joined, when}
use Rattle.codes_writers.specs.Edges.{Ends}

-- Six builders, Edge order, kind 4: from place i of a row that starts at vertex bias, to the next layer, size vertices later: straight, to the next place,
-- to the next row, and to the next place of the next row, where these are inner places of the layer.
unfoldable pub circuit_cell : (d size bias row i : ℕ) → List Ends
circuit_cell d size bias row i =
    ((bias + i, bias + i + size) ∷ [])
    ++ (when (ltb (i + 1) (d - 1)) (bias + i, bias + i + (1 + size))
    ++ (when (ltb (row + 1) d) (bias + i, bias + i + (d + 1 + size))
    ++ when (ltb (row + 1) d && ltb (i + 1) (d - 1)) (bias + i, bias + i + (d + 1 + 1 + size))))

-- Six builders, Edge order, kind 4: from the inner places of a row of the layer that starts at vertex base.
unfoldable pub circuit_row : (d size base row : ℕ) → List Ends
circuit_row d size base row = joined (d - 1) (λ i. circuit_cell d size (base + row * (d + 1)) row i)

-- Six builders, Edge order, kind 4: the gap after the layer that starts at vertex base.
unfoldable pub circuit_gap : (d base : ℕ) → List Ends
circuit_gap d base = joined d (λ row. circuit_row d (d * (d + 1)) base row)
