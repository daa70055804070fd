-- `weights_calls::known::place_of` meets its contract: what equals itself is no NaN. Assumes nothing.
use Rattle.weights_recipe.proofs.Floats.{equal_no_nan}
use Rattle.weights_calls.proofs.known.place_of.Goals as goal

pub float_to_bits-bits : goal.float_to_bits-bits
float_to_bits-bits c = equal_no_nan _ _ c.if-p.true
