-- What is handed to C for each kind of answer.
use Rattle.std.specs.Prelude.{◌≡◌, Result, Float, Bool, false, Option}
use Rattle.columns.specs.declared.refusal.Refusal.{Refusal}
use Rattle.columns.specs.Places.{zero_float}
use Rattle.columns_answers.specs.Said.{said}
use Rattle.codes_calls.specs.declared.CodeCounts.{CodeCounts}
use Rattle.codes_calls.specs.CreateCode.{no_code_counts}
use Rattle.sanity_verdicts.specs.declared.Finding.{Finding}
use Rattle.sanity_verdicts.specs.Sanity as sanity
use Rattle.c_reports.specs.declared.TwoCounts.{TwoCounts}
use Rattle.c_codes.specs.declared.reports.WeighedReport.{WeighedReport}
use Rattle.c_codes.specs.declared.reports.TruthReport.{TruthReport}
use Rattle.c_codes.specs.declared.reports.VerdictReport.{VerdictReport}

-- Expected forms by place, last paragraph: the struct holds the number and the values of what a builder answers.
pub record ReportsCreated (a : Result CodeCounts Refusal) (r : TwoCounts) : Type 0 where
  pub number : r.number ≡ (said no_code_counts a).number
  pub first : r.first ≡ (said no_code_counts a).values.vertices
  pub second : r.second ≡ (said no_code_counts a).values.edges

-- Expected forms by place, last paragraph: the struct holds the number and the values of what `weight_of_p` answers.
pub record ReportsWeighed (a : Result Float Refusal) (r : WeighedReport) : Type 0 where
  pub number : r.number ≡ (said zero_float a).number
  pub weight : r.weight ≡ (said zero_float a).values

-- Expected forms by place, last paragraph: the struct holds the number of a verdict's answer, and the verdict with its values.
pub record ReportsVerdict (a : Result (Option Finding) Refusal) (r : VerdictReport) : Type 0 where
  pub number : r.number ≡ (sanity.verdict_said a).number
  pub verdict : r.verdict ≡ (sanity.verdict_said a).values.0
  pub first : r.first ≡ (sanity.verdict_said a).values.1
  pub second : r.second ≡ (sanity.verdict_said a).values.2

-- Expected forms by place, last paragraph: the struct holds the number of an answer that is a truth value, and the value.
pub record ReportsTruth (a : Result Bool Refusal) (r : TruthReport) : Type 0 where
  pub number : r.number ≡ (said false a).number
  pub value : r.value ≡ (said false a).values
