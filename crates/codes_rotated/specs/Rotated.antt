-- CodeCapacityRotatedCode and PhenomenologicalRotatedCode: d + 1 rows of (d + 1) / 2 places, in the order of the Rust.
use Rattle.std.specs.Prelude.{ℕ, ◌+◌, ◌-◌, ◌*◌, ◌/◌, ◌%◌, Bool, cond, List, eqb, Float}
use Rattle.std.specs.Float.{binary64}
use Rattle.std.specs.Float.Ieee.{of_bits, mul}
use Rattle.columns.specs.Limits.{inner, left, right}
use Rattle.columns.specs.Lists.{each, joined}
use Rattle.columns.specs.Places.{position}
use Rattle.codes_writers.specs.declared.CodeVertex.{CodeVertex}
use Rattle.codes_writers.specs.Edges.{Ends, float, straight_rows}

-- Six builders, Vertices: a row of kinds 5 and 6 has (d+1)/2 places; written as the Rust has it, which is the same from d 1 on.
abbrev pub rotated_width : ℕ → ℕ
rotated_width d = (d - 1) / 2 + 1

-- Six builders, Vertices: a layer of kinds 5 and 6 has ((d+1)/2)(d+1), d + 1 such rows.
abbrev pub rotated_size : ℕ → ℕ
rotated_size d = rotated_width d * (d + 1)

-- Six builders, Edge order, kinds 5 and 6: the place of the i-th edge's end in one of the
-- two rows that it joins; for odd i it is one less in the even row than in the odd one.
unfoldable pub rotated_place : (even : Bool) (i : ℕ) → ℕ
rotated_place even i = cond (eqb (i % 2) 0) (i / 2) (cond even ((i - 1) / 2) ((i + 1) / 2))

-- Six builders, Edge order, kinds 5 and 6: the i-th edge between a row that starts at vertex bias and the next one, with w places in a row.
unfoldable pub rotated_edge : (w bias row i : ℕ) → Ends
rotated_edge w bias row i = (bias + rotated_place (eqb (row % 2) 0) i, bias + w + rotated_place (eqb (row % 2) 1) i)

-- Six builders, Edge order, kinds 5 and 6: the d edges below a row of the layer that starts at vertex base.
unfoldable pub rotated_row : (d base row : ℕ) → List Ends
rotated_row d base row = each d (λ i. rotated_edge (rotated_width d) (base + row * rotated_width d) row i)

-- Six builders, Edge order, kinds 5 and 6: the edges of the layer that starts at vertex base.
unfoldable pub rotated_layer : (d base : ℕ) → List Ends
rotated_layer d base = joined d (λ row. rotated_row d base row)

-- Six builders, Edge order, kind 6: from each vertex of the layer to the same place of the next layer.
unfoldable pub rotated_gap : (d base : ℕ) → List Ends
rotated_gap d base = straight_rows (d + 1) (rotated_width d) (rotated_width d) base (rotated_size d)

-- ---- vertices

-- Six builders, on left and right, sentence 3: the boundary byte of place i of a row: the last place of an even row is right, the first place of an odd row left.
unfoldable pub rotated_boundary : (w row i : ℕ) → ℕ
rotated_boundary w row i = cond (eqb (row % 2) 0) (cond (eqb (i + 1) w) right inner) (cond (eqb i 0) left inner)

-- Six builders, Edge order, sentence 2: √2.
abbrev pub root2 : Float
root2 = of_bits binary64 0x3ff6a09e667f3bcd

-- Six builders, on positions, kind 6: the t of layer t.
abbrev pub rotated_time : ℕ → Float
rotated_time t = mul binary64 (float t) root2

-- Six builders, on positions and on left and right, kinds 5 and 6: place i of a row, at a time.
unfoldable pub rotated_vertex : (w row i : ℕ) → Float → CodeVertex
rotated_vertex w row i time = record {
  boundary = rotated_boundary w row i;
  position = position (float row) (float (i * 2 + cond (eqb (row % 2) 0) 1 0)) time;
}
