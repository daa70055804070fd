-- What is handed to C for the nearest virtual vertex.
use Rattle.std.specs.Prelude.{◌≡◌, Option, Result}
use Rattle.columns.specs.declared.refusal.Refusal.{Refusal}
use Rattle.prebuilt_calls.specs.declared.nearest.BoundaryVertex.{BoundaryVertex}
use Rattle.prebuilt_calls.specs.Nearest.{nearest_said}
use Rattle.c_engine.specs.declared.prebuilt_reports.BoundaryReport.{BoundaryReport}

-- Expected forms by place, last paragraph: the number, whether there is a virtual vertex, its number and the weight.
pub record ReportsBoundary (a : Result (Option BoundaryVertex) Refusal) (r : BoundaryReport) : Type 0 where
  pub number : r.number ≡ (nearest_said a).number
  pub found : r.found ≡ (nearest_said a).values.0
  pub vertex : r.vertex ≡ (nearest_said a).values.1
  pub weight : r.weight ≡ (nearest_said a).values.2
