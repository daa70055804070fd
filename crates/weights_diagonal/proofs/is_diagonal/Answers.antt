-- `weights_diagonal::is_diagonal` meets its contract: `manhattan_distance` promises the distance that is compared with 1. Assumes nothing.
use mathlib.Core.Path.{ap}
use lib.Ieee.{Float, lt}
use Rattle.columns.specs.Places.{one}
use Rattle.weights_diagonal.proofs.is_diagonal.Goals as goal

pub returns : goal.returns
returns c = ap (λ (x : Float). lt one x) c.manhattan_distance.ensures
