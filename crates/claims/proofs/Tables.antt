-- A table query's columns are the table of the graph and the weights lent, and that is a table of least weights. Assumes nothing.
use mathlib.Core.Path.{◌≡◌, sym, ap, ◌∙◌, subst}
use Prim.Native.Nat.{ℕ}
use lib.ListN.{take}
use Rattle.std.specs.Prelude.{Option, None, Result}
use Rattle.columns.specs.declared.refusal.Refusal.{Refusal}
use Rattle.columns.specs.Refusals.{question_of}
use Rattle.columns.specs.declared.VertexIndex.{VertexIndex}
use Rattle.columns_answers.proofs.Said.{question-of}
use Rattle.columns.proofs.Columns.{take-over, after-accepted}
use Rattle.engine_columns.specs.Records.{Engine}
use Rattle.engine_walks.specs.Answers.{TableColumns, table}
use Rattle.engine_walks.specs.Claims.{IsTable}
use Rattle.engine_walks.proofs.TableAndPath.{table_is_least}
use Rattle.query_questions.specs.Queries.{graph_in, weights_in}
use Rattle.query_questions.specs.Scratch.{ScratchColumns}
use Rattle.query_tables.specs.Ends.{end_in}
use Rattle.query_tables.specs.Tables.{FoundTable}
use Rattle.claims.specs.QueriesCalled.{end_returned, all_returned}
use Rattle.claims.specs.Queries.{TableSays, AllEdgesIsLeast}
use Rattle.claims.proofs.Questions.{tableNumber, table-met, table-number, columns_in_range}

module _ (e : Engine) (source : ℕ) (o : Option VertexIndex) (r : Result (Unit {0}) Refusal) (columns₀ columns : TableColumns) (scratch₀ scratch : ScratchColumns)
    (step : FoundTable e source o r columns₀.weights columns.weights columns₀.previous columns.previous scratch₀ scratch) where
  abbrev number : ℕ
  number = tableNumber e source o columns₀ scratch₀

  is_number : question_of r ≡ number
  is_number = question-of r step.answers

  -- the first places of the columns left
  abbrev first : TableColumns
  first = record { weights = take e.counts.vertices columns.weights; previous = take e.counts.vertices columns.previous }

  table-left : number ≡ 0 → IsTable (graph_in e) (weights_in e) source (end_in o) first
  table-left z =
      let m = table-met e source o columns₀ scratch₀ z in
      let g = graph_in e in
      let w = weights_in e in
      let i = table_is_least g w source (end_in o) (columns_in_range e m.six_and_seven.graph_long m.six_and_seven.graph_sound_holds).0 m.source_within in
      let t = table g w source (end_in o) in
      let p : take e.counts.vertices columns.weights ≡ t.weights =
      ap (take e.counts.vertices) (step.weights_after ∙ after-accepted number t.weights columns₀.weights z) ∙ take-over t.weights columns₀.weights e.counts.vertices i.weights_fit in
      let q : take e.counts.vertices columns.previous ≡ t.previous =
      ap (take e.counts.vertices) (step.previous_after ∙ after-accepted number t.previous columns₀.previous z) ∙ take-over t.previous columns₀.previous e.counts.vertices i.previous_fit in
      subst (IsTable g w source (end_in o)) (sym (λ j. record { weights = p j; previous = q j })) i

  table_says : TableSays e source (end_in o) r columns₀ columns scratch₀
  table_says = record {
    accepted = ((λ z. table-met e source o columns₀ scratch₀ (sym is_number ∙ z)), λ m. is_number ∙ table-number e source o columns₀ scratch₀ m);
    is_table = λ z. table-left (sym is_number ∙ z);
  }

pub all-edges_least : AllEdgesIsLeast
all-edges_least e source end r columns₀ columns scratch₀ scratch (end_returned κs a q s h) = table_says e source _ r columns₀ columns scratch₀ scratch h
all-edges_least e source end r columns₀ columns scratch₀ scratch (all_returned κs a q s h) = table_says e source None r columns₀ columns scratch₀ scratch h
