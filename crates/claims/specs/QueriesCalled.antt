-- Calls of the queries' functions. `Learnt` is what a caller of a function learns of a call, made from the function's own contract: lifetimes, the arguments as they
-- were passed, the result, and the parameters at exit. The columns lent are any: no call needs to have made them.
use Rattle.std.specs.Prelude.{ℕ, List, ℤ, Result}
use Rattle.std.proofs.Math.Option.{Option, none}
use contract.Lifetimes.{Lfts}
use denote.Triple.Clauses.{AtExit}
use borrow.Fn.World.{ArgsD, ResD}
use Rattle.learnt.specs.Learnt.{Reading, Learnt, one_fact}
use Rattle.columns.specs.declared.refusal.Refusal.{Refusal}
use Rattle.engine_columns.specs.Records.{Engine, engine_in}
use Rattle.engine_walks.specs.Answers.{TableColumns}
use Rattle.query_questions.specs.Scratch.{ScratchColumns, scratch_in}
use Rattle.query_tables.specs.Ends.{end_in}
use Rattle.query_paths.specs.declared.PathCounts.{PathCounts}
use Rattle.query_tables.specs.contracts.all_edges_with_terminate as end_contract
use Rattle.query_tables.specs.contracts.all_edges as all_contract
use Rattle.query_paths.specs.contracts.get_path as path_contract
use Rattle.query_crossings.specs.contracts.crossing as crossing_contract

-- What a caller of each function learns of a call.
abbrev end_reading : (κs : Lfts 15) (a : ArgsD end_contract.signature κs) (r : ResD end_contract.signature κs) (s : AtExit end_contract.ended κs)
    → Reading (λ w. (end_contract.clauses w.𝓛 w.𝓜.mem w.𝓡.returns κs a).ensures tt r s)
end_reading κs a r s = one_fact _

abbrev all_reading : (κs : Lfts 15) (a : ArgsD all_contract.signature κs) (r : ResD all_contract.signature κs) (s : AtExit all_contract.ended κs)
    → Reading (λ w. (all_contract.clauses w.𝓛 w.𝓜.mem w.𝓡.returns κs a).ensures tt r s)
all_reading κs a r s = one_fact _

abbrev path_reading : (κs : Lfts 15) (a : ArgsD path_contract.signature κs) (r : ResD path_contract.signature κs) (s : AtExit path_contract.ended κs)
    → Reading (λ w. (path_contract.clauses w.𝓛 w.𝓜.mem w.𝓡.returns κs a).ensures tt r s)
path_reading κs a r s = one_fact _

abbrev crossing_reading : (κs : Lfts 14) (a : ArgsD crossing_contract.signature κs) (r : ResD crossing_contract.signature κs) (s : AtExit crossing_contract.ended κs)
    → Reading (λ w. (crossing_contract.clauses w.𝓛 w.𝓜.mem w.𝓡.returns κs a).ensures tt r s)
crossing_reading κs a r s = one_fact _

-- Engine, Table: both columns together.
abbrev pub table_columns : List ℤ → List ℕ → TableColumns
table_columns weights previous = record { weights = weights; previous = previous }

-- Engine, Path, sentence 1: the columns of a path: its vertices, and the weight of the step into each.
pub record PathColumns : Type 0 where
  pub vertices : List ℕ
  pub steps : List ℕ

-- Engine, Path, sentence 1: both columns together.
abbrev pub path_columns : List ℕ → List ℕ → PathColumns
path_columns vertices steps = record { vertices = vertices; steps = steps }

-- Engine, Table: a table query that returned, with a named end or none: the engine lent,
-- the source, the end, the answer, the table's columns and scratch before and after.
pub data TableReturned : Engine → (source : ℕ) → Option ℕ → Result (Unit {0}) Refusal → (columns₀ columns : TableColumns) → (scratch₀ scratch : ScratchColumns) → Type 0 where
  end_returned : (κs : Lfts 15) (a : ArgsD end_contract.signature κs) (r : Result (Unit {0}) Refusal) (s : AtExit end_contract.ended κs) → Learnt (end_reading κs a r s)
      → TableReturned
      (engine_in a.0 a.1.0.now a.1.1.0.now a.1.1.1.0.now a.1.1.1.1.0.now a.1.1.1.1.1.0.now a.1.1.1.1.1.1.0.now)
      a.1.1.1.1.1.1.1.0.0 (end_in a.1.1.1.1.1.1.1.1.0) r
      (table_columns a.1.1.1.1.1.1.1.1.1.0.now a.1.1.1.1.1.1.1.1.1.1.0.now) (table_columns s.1.1.1.1.1.1.1.1.1.0.now s.1.1.1.1.1.1.1.1.1.1.0.now)
      (scratch_in a.1.1.1.1.1.1.1.1.1.1.1.0.now a.1.1.1.1.1.1.1.1.1.1.1.1.0.now a.1.1.1.1.1.1.1.1.1.1.1.1.1.0.now a.1.1.1.1.1.1.1.1.1.1.1.1.1.1.0.now a.1.1.1.1.1.1.1.1.1.1.1.1.1.1.1.0.now a.1.1.1.1.1.1.1.1.1.1.1.1.1.1.1.1.0.now a.1.1.1.1.1.1.1.1.1.1.1.1.1.1.1.1.1.0.now)
      (scratch_in s.1.1.1.1.1.1.1.1.1.1.1.0.now s.1.1.1.1.1.1.1.1.1.1.1.1.0.now s.1.1.1.1.1.1.1.1.1.1.1.1.1.0.now s.1.1.1.1.1.1.1.1.1.1.1.1.1.1.0.now s.1.1.1.1.1.1.1.1.1.1.1.1.1.1.1.0.now s.1.1.1.1.1.1.1.1.1.1.1.1.1.1.1.1.0.now s.1.1.1.1.1.1.1.1.1.1.1.1.1.1.1.1.1.0.now)
  all_returned : (κs : Lfts 15) (a : ArgsD all_contract.signature κs) (r : Result (Unit {0}) Refusal) (s : AtExit all_contract.ended κs) → Learnt (all_reading κs a r s)
      → TableReturned
      (engine_in a.0 a.1.0.now a.1.1.0.now a.1.1.1.0.now a.1.1.1.1.0.now a.1.1.1.1.1.0.now a.1.1.1.1.1.1.0.now)
      a.1.1.1.1.1.1.1.0.0 none r
      (table_columns a.1.1.1.1.1.1.1.1.0.now a.1.1.1.1.1.1.1.1.1.0.now) (table_columns s.1.1.1.1.1.1.1.1.0.now s.1.1.1.1.1.1.1.1.1.0.now)
      (scratch_in a.1.1.1.1.1.1.1.1.1.1.0.now a.1.1.1.1.1.1.1.1.1.1.1.0.now a.1.1.1.1.1.1.1.1.1.1.1.1.0.now a.1.1.1.1.1.1.1.1.1.1.1.1.1.0.now a.1.1.1.1.1.1.1.1.1.1.1.1.1.1.0.now a.1.1.1.1.1.1.1.1.1.1.1.1.1.1.1.0.now a.1.1.1.1.1.1.1.1.1.1.1.1.1.1.1.1.0.now)
      (scratch_in s.1.1.1.1.1.1.1.1.1.1.0.now s.1.1.1.1.1.1.1.1.1.1.1.0.now s.1.1.1.1.1.1.1.1.1.1.1.1.0.now s.1.1.1.1.1.1.1.1.1.1.1.1.1.0.now s.1.1.1.1.1.1.1.1.1.1.1.1.1.1.0.now s.1.1.1.1.1.1.1.1.1.1.1.1.1.1.1.0.now s.1.1.1.1.1.1.1.1.1.1.1.1.1.1.1.1.0.now)

-- Engine, Path: a path query that returned: the engine lent, both vertices, the answer, the path's columns and scratch before and after.
pub data PathReturned : Engine → (a b : ℕ) → Result PathCounts Refusal → (columns₀ columns : PathColumns) → (scratch₀ scratch : ScratchColumns) → Type 0 where
  path_returned : (κs : Lfts 15) (a : ArgsD path_contract.signature κs) (r : Result PathCounts Refusal) (s : AtExit path_contract.ended κs) → Learnt (path_reading κs a r s)
      → PathReturned
      (engine_in a.0 a.1.0.now a.1.1.0.now a.1.1.1.0.now a.1.1.1.1.0.now a.1.1.1.1.1.0.now a.1.1.1.1.1.1.0.now)
      a.1.1.1.1.1.1.1.0.0 a.1.1.1.1.1.1.1.1.0.0 r
      (path_columns a.1.1.1.1.1.1.1.1.1.0.now a.1.1.1.1.1.1.1.1.1.1.0.now) (path_columns s.1.1.1.1.1.1.1.1.1.0.now s.1.1.1.1.1.1.1.1.1.1.0.now)
      (scratch_in a.1.1.1.1.1.1.1.1.1.1.1.0.now a.1.1.1.1.1.1.1.1.1.1.1.1.0.now a.1.1.1.1.1.1.1.1.1.1.1.1.1.0.now a.1.1.1.1.1.1.1.1.1.1.1.1.1.1.0.now a.1.1.1.1.1.1.1.1.1.1.1.1.1.1.1.0.now a.1.1.1.1.1.1.1.1.1.1.1.1.1.1.1.1.0.now a.1.1.1.1.1.1.1.1.1.1.1.1.1.1.1.1.1.0.now)
      (scratch_in s.1.1.1.1.1.1.1.1.1.1.1.0.now s.1.1.1.1.1.1.1.1.1.1.1.1.0.now s.1.1.1.1.1.1.1.1.1.1.1.1.1.0.now s.1.1.1.1.1.1.1.1.1.1.1.1.1.1.0.now s.1.1.1.1.1.1.1.1.1.1.1.1.1.1.1.0.now s.1.1.1.1.1.1.1.1.1.1.1.1.1.1.1.1.0.now s.1.1.1.1.1.1.1.1.1.1.1.1.1.1.1.1.1.0.now)

-- Engine, Crossing: a crossing that returned: the engine lent, the answer, the weight column and scratch before and after.
pub data CrossingReturned : Engine → Result ℕ Refusal → (weights₀ weights : List ℤ) → (scratch₀ scratch : ScratchColumns) → Type 0 where
  crossing_returned : (κs : Lfts 14) (a : ArgsD crossing_contract.signature κs) (r : Result ℕ Refusal) (s : AtExit crossing_contract.ended κs) → Learnt (crossing_reading κs a r s)
      → CrossingReturned
      (engine_in a.0 a.1.0.now a.1.1.0.now a.1.1.1.0.now a.1.1.1.1.0.now a.1.1.1.1.1.0.now a.1.1.1.1.1.1.0.now)
      r a.1.1.1.1.1.1.1.0.now s.1.1.1.1.1.1.1.0.now
      (scratch_in a.1.1.1.1.1.1.1.1.0.now a.1.1.1.1.1.1.1.1.1.0.now a.1.1.1.1.1.1.1.1.1.1.0.now a.1.1.1.1.1.1.1.1.1.1.1.0.now a.1.1.1.1.1.1.1.1.1.1.1.1.0.now a.1.1.1.1.1.1.1.1.1.1.1.1.1.0.now a.1.1.1.1.1.1.1.1.1.1.1.1.1.1.0.now)
      (scratch_in s.1.1.1.1.1.1.1.1.0.now s.1.1.1.1.1.1.1.1.1.0.now s.1.1.1.1.1.1.1.1.1.1.0.now s.1.1.1.1.1.1.1.1.1.1.1.0.now s.1.1.1.1.1.1.1.1.1.1.1.1.0.now s.1.1.1.1.1.1.1.1.1.1.1.1.1.0.now s.1.1.1.1.1.1.1.1.1.1.1.1.1.1.0.now)
