-- The nearest virtual vertex of a vertex in the Rust's `PrebuiltCompleteGraph`, and the call that reports it.
use Rattle.std.specs.Prelude.{ℕ, List, length, ℤ, Option, Some, None, Result, Ok, Err}
use Rattle.std.proofs.Math.Option as maybe
use Rattle.columns.specs.declared.refusal.Refusal.{Refusal}
use Rattle.columns.specs.Refusals.{number}
use Rattle.columns_answers.specs.Said.{Said, accepts, refuses, Answered}
use Rattle.engine_columns.specs.Records.{Engine}
use Rattle.engine_walks.specs.Graph.{Graph}
use Rattle.engine_walks.specs.Answers.{weight_in}
use Rattle.prebuilt_calls.specs.declared.nearest.BoundaryVertex.{BoundaryVertex}
use Rattle.query_questions.specs.Queries.{graph_in, weights_in}
use Rattle.query_questions.specs.Scratch.{ScratchColumns, scratch_fits}
use Rattle.query_tables.specs.Tables.{table_refusal, TableInside}
use Rattle.prebuilt_entries.specs.Nearest.{amount}
use Rattle.prebuilt_calls.specs.Boundaries.{weights_from, nearest_of}

-- Expected forms by place, last paragraph: the values: 1 where there is a virtual vertex, its number and the weight; 0 where there is none.
abbrev pub nearest_values : Option BoundaryVertex → ℕ × ℕ × ℕ
nearest_values (Some b) = (1, b.vertex.0, b.weight)
nearest_values None = (0, 0, 0)

-- Expected forms by place, last paragraph: document 01's number for each case of the answer, and the values, all 0 where the call was refused.
abbrev pub nearest_said : Result (Option BoundaryVertex) Refusal → Said (ℕ × ℕ × ℕ)
nearest_said (Ok b) = accepts (nearest_values b)
nearest_said (Err r) = refuses (number r) (0, 0, 0)

-- complete_graph.rs, `get_boundary_weight`: the values for a vertex or none: its weight stands in `weights`.
abbrev pub boundary_found : List ℤ → maybe.Option ℕ → ℕ × ℕ × ℕ
boundary_found weights maybe.none = (0, 0, 0)
boundary_found weights (maybe.some u) = (1, u, amount (weight_in weights u))

-- complete_graph.rs, `get_boundary_weight`: the answer, where q is the number of the first question that is not met: by the table from v with no end.
abbrev pub BoundarySaid : (q : ℕ) (g : Graph) (w : ℕ → ℕ) (v : ℕ) → Result (Option BoundaryVertex) Refusal → Type 0
BoundarySaid q g w v r =
    Answered (nearest_said r) q (boundary_found (weights_from g w v) (nearest_of g w v)) (0, 0, 0)

-- complete_graph.rs, `get_boundary_weight`: the answer; the columns of the table, which serve as scratch, and scratch hold what the table from v leaves.
-- A refused call leaves them as they were.
pub record GotBoundaryWeight (e : Engine) (v : ℕ) (answer : Result (Option BoundaryVertex) Refusal) (least₀ least : List ℤ) (before₀ before : List ℕ) (scratch₀ scratch : ScratchColumns) : Type 0 where
  pub answers : BoundarySaid (table_refusal e (scratch_fits e.counts scratch₀) v None (length least₀) (length before₀)) (graph_in e) (weights_in e) v answer
  pub table_after : TableInside (nearest_said answer).number e v least₀ least before₀ before scratch₀ scratch
