-- What a table query answers and leaves in the columns that it writes.
use Rattle.std.specs.Prelude.{ℕ, ◌≡◌, Bool, ◌&&◌, List, length, leb, ltb, ℤ, Option, Result}
use Rattle.std.proofs.Math.Option.{none}
use Rattle.columns.specs.Lists.{after}
use Rattle.columns.specs.declared.VertexIndex.{VertexIndex}
use Rattle.columns.specs.declared.refusal.Refusal.{Refusal}
use Rattle.columns_answers.specs.Said.{said, Answered}
use Rattle.engine_columns.specs.Records.{Engine}
use Rattle.engine_walks.specs.Settling.{settled}
use Rattle.engine_walks.specs.Answers.{only, table}
use Rattle.query_questions.specs.Queries.{graph_in, weights_in, query_refusal}
use Rattle.query_questions.specs.Scratch.{ScratchColumns, scratch_fits, ScratchAfter}
use Rattle.query_tables.specs.Ends.{end_in, end_in_range}

-- Questions at the door, 6, 7 and 13, in order, of a table query: the number of the first that is not met, or 0; `scratch` says whether scratch is long enough.
abbrev pub table_refusal : Engine → (scratch : Bool) (source : ℕ) → Option VertexIndex → (weights previous : ℕ) → ℕ
table_refusal e scratch source end weights previous =
    query_refusal e (leb e.counts.vertices weights && (leb e.counts.vertices previous && scratch)) (ltb source e.counts.vertices && end_in_range end e.counts.vertices) 0

-- Engine, Table: the answer of `all_edges_with_terminate`, both columns, and scratch (Crossing, last sentence): after success it holds what the search from the
-- source leaves; a refused call leaves it as it was.
pub record FoundTable (e : Engine) (source : ℕ) (end : Option VertexIndex) (answer : Result (Unit {0}) Refusal) (weights₀ weights : List ℤ) (previous₀ previous : List ℕ) (scratch₀ scratch : ScratchColumns) : Type 0 where
  pub answers : Answered (said tt answer) (table_refusal e (scratch_fits e.counts scratch₀) source end (length weights₀) (length previous₀)) tt tt
  pub weights_after : weights
      ≡ after (table_refusal e (scratch_fits e.counts scratch₀) source end (length weights₀) (length previous₀)) (table (graph_in e) (weights_in e) source (end_in end)).weights weights₀
  pub previous_after : previous
      ≡ after (table_refusal e (scratch_fits e.counts scratch₀) source end (length weights₀) (length previous₀)) (table (graph_in e) (weights_in e) source (end_in end)).previous previous₀
  pub scratch_after : ScratchAfter (said tt answer).number (graph_in e) (settled (graph_in e) (weights_in e) (only source) (end_in end)) scratch₀ scratch

-- Engine, Table, and Crossing, last sentence: what a table from v with no end leaves where it serves another call: the two columns of the table and scratch, by
-- the number of that call's answer. A refused call leaves them as they were.
pub record TableInside (number : ℕ) (e : Engine) (v : ℕ) (least₀ least : List ℤ) (before₀ before : List ℕ) (scratch₀ scratch : ScratchColumns) : Type 0 where
  pub least_after : least ≡ after number (table (graph_in e) (weights_in e) v none).weights least₀
  pub before_after : before ≡ after number (table (graph_in e) (weights_in e) v none).previous before₀
  pub scratch_after : ScratchAfter number (graph_in e) (settled (graph_in e) (weights_in e) (only v) none) scratch₀ scratch
