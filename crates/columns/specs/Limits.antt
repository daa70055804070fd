-- The limits of document 01's "Records".
use Rattle.std.specs.Prelude.{ℕ, ◌+◌, ◌*◌}

-- Records, last sentence: a graph has at most 4,096 vertices.
abbrev pub vertex_limit : ℕ
vertex_limit = 4096

-- Records, last sentence: a graph has at most 32,768 edges.
abbrev pub edge_limit : ℕ
edge_limit = 32768

-- Records, on edges: the greatest half weight of an edge.
abbrev pub half_weight_limit : ℕ
half_weight_limit = 250000

-- Records, on engine graphs: the greatest weight of an edge.
abbrev pub weight_limit : ℕ
weight_limit = 500000

-- Records, last sentence: more than any sum along a walk that meets no vertex twice: at most one weight for each vertex.
abbrev pub sum_limit : ℕ
sum_limit = vertex_limit * weight_limit + 1

-- Records, last sentence: what 32 signed bits hold, the width of a weight in a table, is below this.
abbrev pub table_bound : ℕ
table_bound = 2147483648

-- Records, on vertices: the boundary byte of an inner vertex.
abbrev pub inner : ℕ
inner = 0

-- Records, on vertices: the boundary byte of a left vertex.
abbrev pub left : ℕ
left = 1

-- Records, on vertices: the boundary byte of a right vertex.
abbrev pub right : ℕ
right = 2

-- Records, on vertices: the greatest boundary byte.
abbrev pub boundary_limit : ℕ
boundary_limit = 2

-- Records, on vertices: the greatest defect byte; and the greatest erasure byte, whose values Records, on edges, leaves out.
abbrev pub mark_limit : ℕ
mark_limit = 1
