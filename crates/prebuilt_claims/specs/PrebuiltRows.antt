-- `fill_boundaries`, `get_boundary_weight` and `fill_row` together are the Rust's `PrebuiltCompleteGraph`.
use Rattle.std.specs.Prelude.{ℕ, ◌<◌, ◌≡◌, ◌↔◌, List, get_or, ℤ, pos, negsuc, Option, Result}
use Rattle.columns_answers.specs.Said.{accepts}
use Rattle.engine_columns.specs.Records.{Engine}
use Rattle.engine_walks.specs.Graph.{LeastWeight}
use Rattle.engine_walks.specs.Answers.{weight_in}
use Rattle.query_questions.specs.Queries.{graph_in, weights_in}
use Rattle.columns.specs.declared.refusal.Refusal.{Refusal}
use Rattle.prebuilt_calls.specs.declared.nearest.BoundaryVertex.{BoundaryVertex}
use Rattle.prebuilt_calls.specs.Nearest.{nearest_said}
use Rattle.prebuilt_claims.specs.Prebuilt.{get_boundary_weight, get_edge_weight, edge_entry, weight_entry, vertex_entry, boundary_values, NearestVirtual, NoneVirtual, NoEdge}
use Rattle.prebuilt_claims.specs.Called.{BoundariesFilled, RowFilled, BoundaryAsked}

-- complete_graph.rs, `PrebuiltCompleteGraph`: what accepted calls of the three give, for every engine graph.
pub record PrebuiltRows : Type 0 where
  -- The boundary weight and the boundary vertex of every vertex are the Rust's.
  pub boundaries : (e : Engine) (weights : List ℤ) (vertices : List ℕ) → BoundariesFilled e weights vertices → (v : ℕ) → v < e.counts.vertices
      → (weight_in weights v ≡ weight_entry (get_boundary_weight (graph_in e) (weights_in e) v)) × (get_or vertices v 0 ≡ vertex_entry (get_boundary_weight (graph_in e) (weights_in e) v))
  -- A boundary weight k of v, with its vertex u: some walk from v to u weighs k, u is virtual, and no walk from v to a virtual vertex weighs less.
  pub nearest : (e : Engine) (weights : List ℤ) (vertices : List ℕ) → BoundariesFilled e weights vertices → (v k : ℕ) → v < e.counts.vertices → weight_in weights v ≡ pos k
      → NearestVirtual (graph_in e) (weights_in e) v (get_or vertices v 0) k
  -- -1 stands exactly where v is virtual or no walk joins it to a virtual vertex.
  pub none_nearest : (e : Engine) (weights : List ℤ) (vertices : List ℕ) → BoundariesFilled e weights vertices → (v : ℕ) → v < e.counts.vertices
      → (weight_in weights v ≡ negsuc 0) ↔ NoneVirtual (graph_in e) v
  -- `get_boundary_weight`: the values of an accepted answer are the Rust's,
  pub asked : (e : Engine) (v : ℕ) (r : Result (Option BoundaryVertex) Refusal) → BoundaryAsked e v r → (nearest_said r).number ≡ 0
      → (nearest_said r).values ≡ boundary_values (get_boundary_weight (graph_in e) (weights_in e) v)
  -- the vertex u and the weight k that it reports are those of the lightest walks to virtual vertices,
  pub asked_nearest : (e : Engine) (v : ℕ) (r : Result (Option BoundaryVertex) Refusal) → BoundaryAsked e v r → (u k : ℕ) → nearest_said r ≡ accepts (1, u, k) → NearestVirtual (graph_in e) (weights_in e) v u k
  -- and it reports none exactly where v is virtual or no walk joins it to a virtual vertex.
  pub asked_none : (e : Engine) (v : ℕ) (r : Result (Option BoundaryVertex) Refusal) → BoundaryAsked e v r → (nearest_said r).number ≡ 0
      → ((nearest_said r).values ≡ (0, 0, 0)) ↔ NoneVirtual (graph_in e) v
  -- The row of v over that column is the Rust's at every peer: the edge's weight, -1 exactly where the Rust has no edge.
  pub rows : (e : Engine) (weights : List ℤ) (vertices : List ℕ) → BoundariesFilled e weights vertices → (v : ℕ) (row : List ℤ) → RowFilled e v weights row
      → (u : ℕ) → u < e.counts.vertices → weight_in row u ≡ edge_entry (get_edge_weight (graph_in e) (weights_in e) v u)
  -- And an edge that is there weighs k: some walk from v to the peer weighs k, and none weighs less.
  pub least : (e : Engine) (v : ℕ) (weights row : List ℤ) → RowFilled e v weights row → (u k : ℕ) → u < e.counts.vertices → weight_in row u ≡ pos k
      → LeastWeight (graph_in e) (weights_in e) (λ x. x ≡ v) u k
  -- -1 stands exactly where v or the peer is virtual, where the peer is v, where no walk joins them, or where they are nearer to one another by way of the boundary.
  pub no_edge : (e : Engine) (weights : List ℤ) (vertices : List ℕ) → BoundariesFilled e weights vertices → (v : ℕ) (row : List ℤ) → RowFilled e v weights row
      → (u : ℕ) → u < e.counts.vertices → (weight_in row u ≡ negsuc 0) ↔ NoEdge (graph_in e) (weights_in e) v u
