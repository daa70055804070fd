-- Edges and vertices as lists, and the columns that hold them.
use Rattle.std.specs.Prelude.{ℕ, ◌+◌, ◌*◌, List, map, pos, Float}
use Rattle.std.specs.Float.{binary64}
use Rattle.std.specs.Float.Ieee.{of_int}
use Rattle.columns.specs.Lists.{each, joined}
use Rattle.codes_writers.specs.declared.CodeVertex.{CodeVertex}

-- Records, on edges: an edge by its two ends.
abbrev pub Ends : Type 0
Ends = ℕ × ℕ

-- Records, on edges: the column of first ends.
abbrev pub firsts : List Ends → List ℕ
firsts es = map (λ (e : Ends). e.0) es

-- Records, on edges: the column of second ends.
abbrev pub seconds : List Ends → List ℕ
seconds es = map (λ (e : Ends). e.1) es

-- Records, on vertices: the column of boundary bytes.
abbrev pub boundaries : List CodeVertex → List ℕ
boundaries vs = map (λ (v : CodeVertex). v.boundary) vs

-- Records, on vertices: the column of the positions' i.
abbrev pub positions_i : List CodeVertex → List Float
positions_i vs = map (λ (v : CodeVertex). v.position.i) vs

-- Records, on vertices: the column of the positions' j.
abbrev pub positions_j : List CodeVertex → List Float
positions_j vs = map (λ (v : CodeVertex). v.position.j) vs

-- Records, on vertices: the column of the positions' t.
abbrev pub positions_t : List CodeVertex → List Float
positions_t vs = map (λ (v : CodeVertex). v.position.t) vs

-- Records, on vertices, positions: a whole number as an f64.
abbrev pub float : ℕ → Float
float n = of_int binary64 (pos n)

-- Six builders, Edge order: n edges from the vertices from bias on, each to the vertex that comes far later.
unfoldable pub straight_edges : (n bias far : ℕ) → List Ends
straight_edges n bias far = each n (λ i. (bias + i, bias + i + far))

-- Six builders, Edge order: the same from the first n of w places of each row, row by row; the first row starts at base.
unfoldable pub straight_rows : (rows n w base far : ℕ) → List Ends
straight_rows rows n w base far = joined rows (λ row. straight_edges n (base + row * w) far)
