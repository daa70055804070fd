-- What an exported function hands to C for an answer of the library: document 01's number, 0 where the call was accepted, and its values,
-- 0 where it was refused. The definitions of the numbers and values are those of the crates.
use Rattle.std.specs.Prelude.{ℕ, ◌≡◌, Result}
use Rattle.columns.specs.declared.refusal.Refusal.{Refusal}
use Rattle.columns_answers.specs.Said.{said}
use Rattle.columns_answers.specs.declared.SyndromeLengths.{SyndromeLengths}
use Rattle.columns_answers.specs.Counts.{no_lengths}
use Rattle.c_reports.specs.declared.OneCount.{OneCount}
use Rattle.c_reports.specs.declared.TwoCounts.{TwoCounts}

-- Expected forms by place, last paragraph, for C: there is an answer that the call's contract permits, and r is what is reported of it. A contract fixes its answer, so that is the answer given.
pub record Reported {A : Type 0} {B : Type 0} (Reports : A → B → Type 0) (Call : A → Type 0) (r : B) : Type 0 where
  pub answer : A
  pub called : Call answer
  pub reported : Reports answer r

-- Expected forms by place, last paragraph: the number of an answer that has no value.
abbrev pub ReportsNumber : Result (Unit {0}) Refusal → ℕ → Type 0
ReportsNumber a r = r ≡ (said tt a).number

-- Expected forms by place, last paragraph: the number of an answer that is a count, and the count.
pub record ReportsCount (a : Result ℕ Refusal) (r : OneCount) : Type 0 where
  pub number : r.number ≡ (said 0 a).number
  pub count : r.count ≡ (said 0 a).values

-- Expected forms by place, last paragraph: the number of a syndrome handed back, how many defects, and how many erasures.
pub record ReportsLengths (a : Result SyndromeLengths Refusal) (r : TwoCounts) : Type 0 where
  pub number : r.number ≡ (said no_lengths a).number
  pub first : r.first ≡ (said no_lengths a).values.defects
  pub second : r.second ≡ (said no_lengths a).values.erasures
