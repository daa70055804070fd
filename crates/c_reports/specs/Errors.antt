-- What is handed to C for the answer of a translation.
use Rattle.std.specs.Prelude.{ℕ, ◌≡◌, Result}
use Rattle.columns.specs.declared.refusal.Refusal.{Refusal}
use Rattle.columns_answers.specs.Said.{said}
use Rattle.c_reports.specs.declared.errors.LongCount.{LongCount}

-- Expected forms by place, last paragraph: the struct holds the number of the answer, and how many numbers were translated.
pub record ReportsTranslated (a : Result ℕ Refusal) (r : LongCount) : Type 0 where
  pub number : r.number ≡ (said 0 a).number
  pub count : r.count ≡ (said 0 a).values
