-- `weights_recipe::rounding::is_reached` meets its contract: the test is that of the definition, and n goes into an f64 since it is at most 2 ^ 53. Assumes nothing.
use Rattle.std.proofs.Common.{refl, arith}
use Rattle.weights_recipe.specs.Rounding.{reaches}
use Rattle.weights_recipe.proofs.Search.{fits_float}
use Rattle.weights_recipe.proofs.rounding.is_reached.Goals as goal

pub int_to_float-result : goal.int_to_float-result
int_to_float-result c = fits_float _ (omega arith)

pub returns : goal.returns
unfolding reaches
returns c = refl
