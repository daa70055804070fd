-- The boundary weight and the boundary vertex of every vertex in the Rust's `PrebuiltCompleteGraph`.
use Rattle.std.specs.Prelude.{ℕ, ◌-◌, ◌≡◌, Bool, true, ◌&&◌, List, length, leb, ℤ, Result}
use Rattle.std.proofs.Math.Option.{Option, none}
use Rattle.columns.specs.Lists.{each, after}
use Rattle.columns.specs.declared.refusal.Refusal.{Refusal}
use Rattle.columns_answers.specs.Said.{said, Answered}
use Rattle.engine_columns.specs.Records.{Engine}
use Rattle.engine_walks.specs.Graph.{Graph}
use Rattle.engine_walks.specs.Answers.{table}
use Rattle.query_questions.specs.Queries.{graph_in, weights_in, query_refusal}
use Rattle.query_questions.specs.Scratch.{ScratchColumns, scratch_fits}
use Rattle.query_tables.specs.Tables.{TableInside}
use Rattle.prebuilt_entries.specs.Nearest.{boundary_in, weight_to, vertex_to}

-- Engine, Table: the weights from v with no end.
abbrev pub weights_from : (g : Graph) (w : ℕ → ℕ) (v : ℕ) → List ℤ
weights_from g w v = (table g w v none).weights

-- complete_graph.rs, `get_boundary_weight`: the nearest virtual vertex of v in these weights.
abbrev pub nearest_of : (g : Graph) (w : ℕ → ℕ) (v : ℕ) → Option ℕ
nearest_of g w v = boundary_in g.boundary (weights_from g w v) g.vertices v

-- complete_graph.rs, `get_boundary_weight`: the weight of that vertex, -1 for none.
abbrev pub boundary_weight : (g : Graph) (w : ℕ → ℕ) (v : ℕ) → ℤ
boundary_weight g w v = weight_to (weights_from g w v) (nearest_of g w v)

-- complete_graph.rs, `get_boundary_weight`: the number of that vertex, 0 for none.
abbrev pub boundary_vertex : (g : Graph) (w : ℕ → ℕ) (v : ℕ) → ℕ
boundary_vertex g w v = vertex_to (nearest_of g w v)

-- Questions at the door, 6 and 7, of `fill_boundaries`: the number of the first that is not met, or 0; `scratch` says whether scratch is long enough.
abbrev pub boundaries_refusal : Engine → (scratch : Bool) (weights vertices least before : ℕ) → ℕ
boundaries_refusal e scratch weights vertices least before =
    query_refusal e (leb e.counts.vertices weights && (leb e.counts.vertices vertices && (leb e.counts.vertices least && (leb e.counts.vertices before && scratch)))) true 0

-- complete_graph.rs, `PrebuiltCompleteGraph`: the answer of `fill_boundaries`, and both columns. The columns of the table, which serve as scratch, and scratch hold
-- what the table from the last vertex leaves. A refused call leaves them as they were.
pub record FilledBoundaries (e : Engine) (answer : Result (Unit {0}) Refusal) (weights₀ weights : List ℤ) (vertices₀ vertices : List ℕ) (least₀ least : List ℤ) (before₀ before : List ℕ)
    (scratch₀ scratch : ScratchColumns) : Type 0 where
  pub answers : Answered (said tt answer) (boundaries_refusal e (scratch_fits e.counts scratch₀) (length weights₀) (length vertices₀) (length least₀) (length before₀)) tt tt
  pub weights_after : weights
      ≡ after (boundaries_refusal e (scratch_fits e.counts scratch₀) (length weights₀) (length vertices₀) (length least₀) (length before₀))
      (each e.counts.vertices (boundary_weight (graph_in e) (weights_in e))) weights₀
  pub vertices_after_holds : vertices
      ≡ after (boundaries_refusal e (scratch_fits e.counts scratch₀) (length weights₀) (length vertices₀) (length least₀) (length before₀))
      (each e.counts.vertices (boundary_vertex (graph_in e) (weights_in e))) vertices₀
  pub table_after : TableInside (said tt answer).number e (e.counts.vertices - 1) least₀ least before₀ before scratch₀ scratch
