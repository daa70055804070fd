-- A code's graph, with questions 6 and 7 of it.
use Rattle.std.specs.Prelude.{ℕ, Bool, ◌&&◌, List, length, leb}
use Rattle.columns.specs.Questions.{boundaries_sound}
use Rattle.columns_neighbors.specs.Sound.{graph_sound}
use Rattle.columns_room.specs.Room.{two_long}

-- Records, on vertices and edges: a code's graph: its counts, the two ends of each edge, the boundary bytes.
pub record CodeGraph : Type 0 where
  pub vertices : ℕ
  pub edges : ℕ
  pub ends_a : List ℕ
  pub ends_b : List ℕ
  pub boundary : List ℕ

-- Records, on vertices and edges: the counts and the columns together.
abbrev pub code_graph : (v e : ℕ) (a b m : List ℕ) → CodeGraph
code_graph v e a b m = record { vertices = v; edges = e; ends_a = a; ends_b = b; boundary = m }

-- Questions at the door, 6: ends as long as the edges, boundary bytes as long as the vertices.
unfoldable pub graph_long : CodeGraph → Bool
graph_long g = two_long g.edges (length g.ends_a) (length g.ends_b) && leb g.vertices (length g.boundary)

-- Questions at the door, 7: counts, ends and boundary bytes.
unfoldable pub code_sound : CodeGraph → Bool
code_sound g = graph_sound g.vertices g.edges g.ends_a g.ends_b && boundaries_sound g.vertices g.boundary
