-- The row of a vertex in the Rust's `PrebuiltCompleteGraph`: least weights to the peers, without virtual vertices and without edges in the middle.
use Rattle.std.specs.Prelude.{ℕ, ◌≡◌, Bool, ◌&&◌, List, length, leb, ltb, ℤ, Result}
use Rattle.std.proofs.Math.Option.{none}
use Rattle.columns.specs.Lists.{each, after}
use Rattle.columns.specs.declared.refusal.Refusal.{Refusal}
use Rattle.columns_answers.specs.Said.{said, Answered}
use Rattle.engine_columns.specs.Records.{Engine}
use Rattle.engine_walks.specs.Graph.{Graph}
use Rattle.engine_walks.specs.Settling.{settled}
use Rattle.engine_walks.specs.Answers.{only, table}
use Rattle.query_questions.specs.Queries.{graph_in, weights_in, query_refusal}
use Rattle.query_questions.specs.Scratch.{ScratchColumns, scratch_fits, ScratchAfter}
use Rattle.prebuilt_entries.specs.Entries.{row_entry}

-- complete_graph.rs, `PrebuiltCompleteGraph`: the row of v; `nearest` holds for each vertex the least weight to a virtual vertex, -1 for none.
abbrev pub row : (g : Graph) (w : ℕ → ℕ) (nearest : List ℤ) (v : ℕ) → List ℤ
row g w nearest v = each g.vertices (row_entry g.boundary nearest v (table g w v none).weights)

-- Questions at the door, 6, 7 and 13, of `fill_row`: the number of the first that is not met, or 0; `scratch` says whether scratch is long enough.
abbrev pub row_refusal : Engine → (scratch : Bool) (v nearest out before : ℕ) → ℕ
row_refusal e scratch v nearest out before =
    query_refusal e (leb e.counts.vertices nearest && (leb e.counts.vertices out && (leb e.counts.vertices before && scratch))) (ltb v e.counts.vertices) 0

-- complete_graph.rs, `PrebuiltCompleteGraph`: the answer of `fill_row`, and the row's column. Engine, Table: the column of previous vertices, which serves as
-- scratch, and scratch hold what the table from v with no end leaves. A refused call leaves them as they were.
pub record FilledRow (e : Engine) (v : ℕ) (nearest : List ℤ) (answer : Result (Unit {0}) Refusal) (out₀ out : List ℤ) (before₀ before : List ℕ) (scratch₀ scratch : ScratchColumns) : Type 0 where
  pub answers : Answered (said tt answer) (row_refusal e (scratch_fits e.counts scratch₀) v (length nearest) (length out₀) (length before₀)) tt tt
  pub out_after : out ≡ after (row_refusal e (scratch_fits e.counts scratch₀) v (length nearest) (length out₀) (length before₀)) (row (graph_in e) (weights_in e) nearest v) out₀
  pub before_after : before ≡ after (said tt answer).number (table (graph_in e) (weights_in e) v none).previous before₀
  pub scratch_after : ScratchAfter (said tt answer).number (graph_in e) (settled (graph_in e) (weights_in e) (only v) none) scratch₀ scratch
