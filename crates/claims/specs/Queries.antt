-- What every call of a query says of walks and edge sets, whatever columns it is lent.
use Rattle.std.specs.Prelude.{ℕ, ◌<◌, ◌≡◌, ◌↔◌, List, take, ℤ, Result}
use Rattle.std.proofs.Math.Option.{Option}
use Rattle.columns.specs.declared.refusal.Refusal.{Refusal}
use Rattle.columns.specs.Refusals.{question_of}
use Rattle.engine_columns.specs.Records.{Engine}
use Rattle.engine_walks.specs.Graph.{Joined, LeftJoinsRight}
use Rattle.engine_walks.specs.Answers.{TableColumns, weight_in}
use Rattle.engine_walks.specs.Claims.{IsTable, IsPath, IsCrossing, LeftWeight}
use Rattle.query_questions.specs.Queries.{graph_in, weights_in}
use Rattle.query_questions.specs.Scratch.{ScratchColumns}
use Rattle.query_crossing_answer.specs.Crossing.{reply_number, reply_weight}
use Rattle.query_paths.specs.declared.PathCounts.{PathCounts}
use Rattle.query_paths.specs.GetPath.{length_of, total_of}
use Rattle.claims.specs.QueriesCalled.{PathColumns, TableReturned, PathReturned, CrossingReturned}
use Rattle.claims.specs.Met.{TableMet, PathMet, CrossingMet}

-- Engine, Settling and Table; questions at the door, 6, 7 and 13: accepted exactly where these are met. The columns' first places then are the table of the graph and the
-- weights lent: least weights and a tree of previous vertices, -1 and 0 elsewhere, and what a named end means for the rows.
pub record TableSays (e : Engine) (source : ℕ) (end : Option ℕ) (r : Result (Unit {0}) Refusal) (columns₀ columns : TableColumns) (scratch₀ : ScratchColumns) : Type 0 where
  pub accepted : question_of r ≡ 0 ↔ TableMet e source end columns₀ scratch₀
  pub is_table : question_of r ≡ 0
      → IsTable (graph_in e) (weights_in e) source end (record { weights = take e.counts.vertices columns.weights; previous = take e.counts.vertices columns.previous })

-- Engine, Path; questions at the door, 17: exactly where the earlier questions are met and no walk joins a and b; a path exactly where they are met and some walk does.
-- The columns' first places then are a walk from a to b that meets no vertex twice, whose steps sum to the total; no walk weighs less.
pub record PathSays (e : Engine) (a b : ℕ) (r : Result PathCounts Refusal) (columns₀ columns : PathColumns) (scratch₀ : ScratchColumns) : Type 0 where
  pub not_reached : question_of r ≡ 17 ↔ (PathMet e a b columns₀ scratch₀ × ¬ Joined (graph_in e) a b)
  pub reached : question_of r ≡ 0 ↔ (PathMet e a b columns₀ scratch₀ × Joined (graph_in e) a b)
  pub least : question_of r ≡ 0
      → IsPath (graph_in e) (weights_in e) a b (record { vertices = take (length_of r) columns.vertices; steps = take (length_of r) columns.steps; total = total_of r })

-- Engine, Crossing; demand 3; questions at the door, 18: exactly where 6 and 7 are met and no walk joins a left vertex to a right one; accepted exactly where
-- they are met and some walk does. The weight reported then is the least of a walk from left to right; one edge set that leaves no defect and meets the left
-- an odd number of times weighs exactly that, none weighs less. The weight column holds the least weight from the left at every vertex, -1 exactly where no
-- walk leads.
pub record CrossingSays (e : Engine) (r : Result ℕ Refusal) (weights₀ weights : List ℤ) (scratch₀ : ScratchColumns) : Type 0 where
  pub not_joined : reply_number r ≡ 18 ↔ (CrossingMet e weights₀ scratch₀ × ¬ LeftJoinsRight (graph_in e))
  pub joined : reply_number r ≡ 0 ↔ (CrossingMet e weights₀ scratch₀ × LeftJoinsRight (graph_in e))
  pub least : reply_number r ≡ 0 → IsCrossing (graph_in e) (weights_in e) (reply_weight r)
  pub column : reply_number r ≡ 0 → (v : ℕ) → v < e.counts.vertices → LeftWeight (graph_in e) (weights_in e) v (weight_in weights v)

-- Engine, Settling and Table: for every call of a table query that returned, on any columns lent.
abbrev pub AllEdgesIsLeast : Type 0
AllEdgesIsLeast =
    (e : Engine) (source : ℕ) (end : Option ℕ) (r : Result (Unit {0}) Refusal) (columns₀ columns : TableColumns) (scratch₀ scratch : ScratchColumns)
    → TableReturned e source end r columns₀ columns scratch₀ scratch → TableSays e source end r columns₀ columns scratch₀

-- Engine, Path: for every call of `get_path` that returned, on any columns lent.
abbrev pub GetPathIsLeast : Type 0
GetPathIsLeast =
    (e : Engine) (a b : ℕ) (r : Result PathCounts Refusal) (columns₀ columns : PathColumns) (scratch₀ scratch : ScratchColumns)
    → PathReturned e a b r columns₀ columns scratch₀ scratch → PathSays e a b r columns₀ columns scratch₀

-- Engine, Crossing; demand 3: for every call of a crossing that returned, on any columns lent.
abbrev pub CrossingCallIsLeast : Type 0
CrossingCallIsLeast =
    (e : Engine) (r : Result ℕ Refusal) (weights₀ weights : List ℤ) (scratch₀ scratch : ScratchColumns)
    → CrossingReturned e r weights₀ weights scratch₀ scratch → CrossingSays e r weights₀ weights scratch₀
