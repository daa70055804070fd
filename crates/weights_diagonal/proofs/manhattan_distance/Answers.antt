-- `weights_diagonal::manhattan_distance` meets its contract: std's `abs` takes the sign away, and the three are added from the left. Assumes nothing.
use mathlib.Core.Path.{◌≡◌, refl, ◌∙◌}
use lib.Ieee.{Float, nan, inf, fin}
use mathlib.Core.Bool.{false}
use Rattle.std.specs.Float.{float_with_sign}
use Rattle.weights_diagonal.specs.Diagonal.{absolute, manhattan_distance}
use Rattle.weights_diagonal.proofs.manhattan_distance.Goals as goal

unsigned : (x : Float) → float_with_sign false x ≡ absolute x
unfolding float_with_sign absolute
unsigned nan = refl
unsigned (inf s) = refl
unsigned (fin s m e) = refl

pub returns : goal.returns
unfolding manhattan_distance
returns c = cc (c.abs.ensures.value ∙ unsigned _, c.abs-2.ensures.value ∙ unsigned _, c.abs-3.ensures.value ∙ unsigned _)
