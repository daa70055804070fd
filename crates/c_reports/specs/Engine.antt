-- What is handed to C for an answer of the engine, and an end from numbers.
use Rattle.std.specs.Prelude.{ℕ, zero, suc, ◌≡◌, Option, Some, None, Result}
use Rattle.columns.specs.declared.refusal.Refusal.{Refusal}
use Rattle.columns_answers.specs.Said.{said}
use Rattle.engine_columns.specs.declared.EngineCounts.{EngineCounts}
use Rattle.engine_columns.specs.Records.{no_counts}
use Rattle.columns.specs.declared.VertexIndex.{VertexIndex}
use Rattle.c_reports.specs.declared.engine.EngineReport.{EngineReport}

-- Expected forms by place, last paragraph: the struct holds the number and the counts to go on with.
pub record ReportsEngine (a : Result EngineCounts Refusal) (r : EngineReport) : Type 0 where
  pub number : r.number ≡ (said no_counts a).number
  pub vertices : r.vertices ≡ (said no_counts a).values.vertices
  pub edges : r.edges ≡ (said no_counts a).values.edges
  pub entries : r.entries ≡ (said no_counts a).values.entries

-- ---- optional arguments: whether there is one, any number but 0 for yes, and the value

-- Engine, Settling, sentence 5: no end.
abbrev pub no_end : Option VertexIndex
no_end = None

-- Engine, Settling, sentence 5: an end or none, from whether there is one and its number.
abbrev pub given_end : ℕ → ℕ → Option VertexIndex
given_end zero v = None
given_end (suc n) v = Some (record { 0 = v })
