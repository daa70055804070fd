-- Questions 6, 7, 13 and 16 of the queries, as facts about the columns lent.
use Rattle.std.specs.Prelude.{ℕ, ◌<◌, ◌≤◌, ◌≡◌, ◌≢◌, true, List, [], ◌∷◌, length, ℤ}
use Rattle.std.proofs.Math.Option.{Option, some, none}
use Rattle.columns.specs.Limits.{weight_limit}
use Rattle.engine_columns.specs.Records.{Engine}
use Rattle.engine_columns.specs.Questions.{engine_long, engine_sound}
use Rattle.engine_walks.specs.Lists.{All}
use Rattle.engine_walks.specs.Graph.{edges, GraphInRange}
use Rattle.engine_walks.specs.Answers.{TableColumns}
use Rattle.query_questions.specs.Queries.{graph_in, weights_in}
use Rattle.query_questions.specs.Scratch.{ScratchColumns, scratch_fits}
use Rattle.claims.specs.QueriesCalled.{PathColumns}

-- Questions at the door, 6 and 7, of a query: the columns lent and the log are long enough, those of the lengths `written` and scratch too, and graph and log are sound.
pub record Met (e : Engine) (written : List ℕ) (scratch : ScratchColumns) : Type 0 where
  pub graph_long : engine_long 0 e ≡ true
  pub written_long : All (λ n. e.counts.vertices ≤ n) written
  pub scratch_long_holds : scratch_fits e.counts scratch ≡ true
  pub graph_sound_holds : engine_sound e ≡ true

-- Questions at the door, 13, of an end that is named.
abbrev pub EndWithin : ℕ → Option ℕ → Type 0
EndWithin n none = Unit {0}
EndWithin n (some b) = b < n

-- Questions at the door, 6, 7 and 13, of a table query.
pub record TableMet (e : Engine) (source : ℕ) (end : Option ℕ) (columns : TableColumns) (scratch : ScratchColumns) : Type 0 where
  pub six_and_seven : Met e (length columns.weights ∷ length columns.previous ∷ []) scratch
  pub source_within : source < e.counts.vertices
  pub end_within : EndWithin e.counts.vertices end

-- Questions at the door, 6, 7, 13 and 16, of a path query.
pub record PathMet (e : Engine) (a b : ℕ) (columns : PathColumns) (scratch : ScratchColumns) : Type 0 where
  pub six_and_seven : Met e (length columns.vertices ∷ length columns.steps ∷ []) scratch
  pub a_within : a < e.counts.vertices
  pub b_within : b < e.counts.vertices
  pub differ : a ≢ b

-- Questions at the door, 6 and 7, of a crossing.
abbrev pub CrossingMet : Engine → List ℤ → ScratchColumns → Type 0
CrossingMet e weights scratch = Met e (length weights ∷ []) scratch

-- Questions at the door, 6 and 7: where they are met, the graph in the columns has the counted
-- edges, each end is a vertex, each boundary byte is 0, 1 or 2, and each weight is within its limit.
abbrev pub ColumnsInRange : Type 0
ColumnsInRange =
    (e : Engine) → engine_long 0 e ≡ true → engine_sound e ≡ true
    → GraphInRange (graph_in e) × (edges (graph_in e) ≡ e.counts.edges) × ((k : ℕ) → k < e.counts.edges → weights_in e k ≤ weight_limit)
