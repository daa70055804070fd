-- What is handed to C for a path.
use Rattle.std.specs.Prelude.{◌≡◌, Result}
use Rattle.columns.specs.declared.refusal.Refusal.{Refusal}
use Rattle.columns_answers.specs.Said.{said}
use Rattle.query_paths.specs.declared.PathCounts.{PathCounts}
use Rattle.query_paths.specs.GetPath.{no_path}
use Rattle.c_reports.specs.declared.TwoCounts.{TwoCounts}

-- Expected forms by place, last paragraph: the number, the path's length and total.
pub record ReportsPath (a : Result PathCounts Refusal) (r : TwoCounts) : Type 0 where
  pub number : r.number ≡ (said no_path a).number
  pub first : r.first ≡ (said no_path a).values.length
  pub second : r.second ≡ (said no_path a).values.total
