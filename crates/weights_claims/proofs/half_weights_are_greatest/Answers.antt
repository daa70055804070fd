-- `weights_claims::half_weights_are_greatest` meets its contract, a theorem of `proofs/Claims.antt`. Assumes nothing.
use Rattle.weights_claims.proofs.Claims.{half-weights_are_greatest}
use Rattle.weights_claims.proofs.half_weights_are_greatest.Goals as goal

pub returns : goal.returns
returns c = half-weights_are_greatest
