-- Built codes as graphs.
use Rattle.std.specs.Prelude.{ℕ, ◌+◌, ◌*◌, ◌%◌, cond, leb}
use Rattle.engine_walks.specs.Graph.{Graph}
use Rattle.codes_writers.specs.Edges.{firsts, seconds, boundaries}
use Rattle.codes_layers.specs.Codes.{edges_of, vertices_of}
use Rattle.codes_layers.specs.Counts.{vertex_num}

-- Six builders: a built code as a graph, from the columns that a builder writes.
unfoldable pub built_graph : (kind d rounds : ℕ) → Graph
built_graph kind d rounds = record {
  vertices = vertex_num kind d rounds;
  ends_a = firsts (edges_of kind d rounds);
  ends_b = seconds (edges_of kind d rounds);
  boundary = boundaries (vertices_of kind d rounds);
}

-- Demand 3, grounds for the clause about d, kinds 1 to 4: how far a vertex is from the left, with left 0 and right d.
unfoldable pub planar_height : (d v : ℕ) → ℕ
planar_height d v = (v + 1) % (d + 1)

-- Demand 3, grounds for the clause about d, kinds 5 and 6: how far a vertex is from the left, with left 0 and right d.
unfoldable pub rotated_height : (d v : ℕ) → ℕ
rotated_height d v = (2 * (v % (d + 1)) + 1) % (d + 2)

-- Demand 3, grounds for the clause about d: how far a vertex is from the left, with left 0 and right d.
unfoldable pub height : (kind d v : ℕ) → ℕ
height kind d v = cond (leb kind 4) (planar_height d v) (rotated_height d v)
