-- complete_graph.rs, `PrebuiltCompleteGraph::new_threaded`: what `get_boundary_weight` and `get_edge_weight` report of a graph.
use Rattle.std.specs.Prelude.{ℕ, zero, suc, ◌+◌, ◌<◌, ◌≤◌, ◌≡◌, ◌⊎◌, Bool, true, false, not, cond, ◌||◌, List, ltb, eqb, ℤ, pos, negsuc}
use Rattle.std.proofs.Math.Option.{Option, some, none}
use Rattle.engine_walks.specs.Lists.{sum}
use Rattle.engine_walks.specs.Graph.{Graph, boundary_at, Walk, Joined}
use Rattle.engine_walks.specs.Answers.{weight_in, table}

-- Records, on vertices; complete_graph.rs, `is_virtual`: the boundary byte is not 0.
abbrev pub virtual : Graph → ℕ → Bool
virtual g u = not (eqb (boundary_at g u) 0)

-- Engine, Table: the weight of a row of a table, none for -1.
abbrev pub reached : ℤ → Option ℕ
reached (pos k) = some k
reached (negsuc n) = none

-- complete_graph.rs, `complete_graph.all_edges(v)` at the peer u: it has no entry for v itself.
abbrev pub complete_edge : (g : Graph) (w : ℕ → ℕ) (v u : ℕ) → Option ℕ
complete_edge g w v u = cond (eqb u v) none (reached (weight_in (table g w v none).weights u))

-- complete_graph.rs, `boundary`: a peer and its weight.
pub record Peer : Type 0 where
  pub vertex : ℕ
  pub weight : ℕ

-- complete_graph.rs: a virtual peer u with this entry, beside the `boundary` found so far: it replaces it where there is none, or where it weighs less.
abbrev pub offered : (u : ℕ) → Option ℕ → Option Peer → Option Peer
offered u none found = found
offered u (some weight) none = some (record { vertex = u; weight = weight })
offered u (some weight) (some b) = cond (ltb weight b.weight) (some (record { vertex = u; weight = weight })) (some b)

-- complete_graph.rs: `boundary` after the peers below n, in ascending order.
unfoldable pub boundary_below : (g : Graph) (w : ℕ → ℕ) (v n : ℕ) → Option Peer
boundary_below g w v zero = none
boundary_below g w v (suc n) = cond (virtual g n) (offered n (complete_edge g w v n) (boundary_below g w v n)) (boundary_below g w v n)

-- complete_graph.rs, `get_boundary_weight(v)`: none for a virtual vertex.
abbrev pub get_boundary_weight : (g : Graph) (w : ℕ → ℕ) (v : ℕ) → Option Peer
get_boundary_weight g w v = cond (virtual g v) none (boundary_below g w v g.vertices)

-- complete_graph.rs, `edges[v]` at the peer u, as it is first collected: only between vertices that are not virtual.
abbrev pub collected : (g : Graph) (w : ℕ → ℕ) (v u : ℕ) → Option ℕ
collected g w v u = cond (virtual g v || virtual g u) none (complete_edge g w v u)

-- complete_graph.rs, "remove edges in the middle": both ends have a boundary weight, and the edge weighs more than the two together.
abbrev pub removed : (own peer : Option Peer) (weight : ℕ) → Bool
removed (some a) (some b) weight = ltb (a.weight + b.weight) weight
removed (some a) none weight = false
removed none peer weight = false

-- complete_graph.rs, "remove edges in the middle": an entry after that.
abbrev pub remaining : (own peer : Option Peer) → Option ℕ → Option ℕ
remaining own peer none = none
remaining own peer (some weight) = cond (removed own peer weight) none (some weight)

-- complete_graph.rs, `get_edge_weight(v, u)`.
abbrev pub get_edge_weight : (g : Graph) (w : ℕ → ℕ) (v u : ℕ) → Option ℕ
get_edge_weight g w v u = remaining (get_boundary_weight g w v) (get_boundary_weight g w u) (collected g w v u)

-- ---- in columns: -1 for no edge and no boundary weight, 0 for no boundary vertex

-- complete_graph.rs, `get_edge_weight`: the weight of an edge in a row's column.
abbrev pub edge_entry : Option ℕ → ℤ
edge_entry none = negsuc 0
edge_entry (some k) = pos k

-- complete_graph.rs, `get_boundary_weight`: the boundary weight of a vertex in the column of boundary weights.
abbrev pub weight_entry : Option Peer → ℤ
weight_entry none = negsuc 0
weight_entry (some b) = pos b.weight

-- complete_graph.rs, `get_boundary_weight`: the boundary vertex of a vertex in the column of boundary vertices.
abbrev pub vertex_entry : Option Peer → ℕ
vertex_entry none = 0
vertex_entry (some b) = b.vertex

-- complete_graph.rs, `get_boundary_weight`: the values of its answer: 1 where there is a boundary weight, the virtual vertex and the weight; 0 where there is none.
abbrev pub boundary_values : Option Peer → ℕ × ℕ × ℕ
boundary_values none = (0, 0, 0)
boundary_values (some b) = (1, b.vertex, b.weight)

-- ---- in terms of walks

-- Records, on vertices: x is a vertex, and virtual.
abbrev pub VirtualVertex : Graph → ℕ → Type 0
VirtualVertex g x = (x < g.vertices) × (virtual g x ≡ true)

-- complete_graph.rs, `get_boundary_weight`, by Engine, on walks, sentence 1: v is not virtual and u is; some walk from v to u weighs k; no walk from v to a virtual
-- vertex weighs less, and of the virtual vertices at that weight u has the smallest number.
pub record NearestVirtual (g : Graph) (w : ℕ → ℕ) (v u k : ℕ) : Type 0 where
  pub inner : virtual g v ≡ false
  pub is_virtual : VirtualVertex g u
  pub some_walk : (s : List ℕ) × Walk g v s u × (sum s w ≡ k)
  pub no_lighter : (x : ℕ) (s : List ℕ) → VirtualVertex g x → Walk g v s x → k ≤ sum s w
  pub smallest : (x : ℕ) (s : List ℕ) → VirtualVertex g x → Walk g v s x → sum s w ≡ k → u ≤ x

-- complete_graph.rs, `get_boundary_weight`: v is virtual, or no walk joins it to a virtual vertex.
abbrev pub NoneVirtual : Graph → ℕ → Type 0
NoneVirtual g v = (virtual g v ≡ true) ⊎ ((x : ℕ) → VirtualVertex g x → ¬ Joined g v x)

-- complete_graph.rs, "remove edges in the middle": v and u have nearest virtual vertices, at weights a and b, and every walk from v to u weighs more than a and b together.
pub record NearerByBoundary (g : Graph) (w : ℕ → ℕ) (v u : ℕ) : Type 0 where
  pub a : ℕ
  pub b : ℕ
  pub of_v : ℕ
  pub of_u : ℕ
  pub own : NearestVirtual g w v of_v a
  pub peer : NearestVirtual g w u of_u b
  pub heavier : (s : List ℕ) → Walk g v s u → a + b < sum s w

-- complete_graph.rs, `get_edge_weight(v, u)`: why there is no edge: v or u is virtual, they are one vertex, no walk joins them, or they are nearer by way of the boundary.
pub data NoEdge (g : Graph) (w : ℕ → ℕ) (v u : ℕ) : Type 0 where
  own_virtual : virtual g v ≡ true → NoEdge g w v u
  peer_virtual : virtual g u ≡ true → NoEdge g w v u
  itself : u ≡ v → NoEdge g w v u
  not_joined : ¬ Joined g v u → NoEdge g w v u
  by_boundary : NearerByBoundary g w v u → NoEdge g w v u
