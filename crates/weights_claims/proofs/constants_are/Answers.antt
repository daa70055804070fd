-- `weights_claims::constants_are` meets its contract, a theorem of `proofs/Claims.antt`. Assumes nothing.
use Rattle.weights_claims.proofs.Claims.{constants}
use Rattle.weights_claims.proofs.constants_are.Goals as goal

pub returns : goal.returns
returns c = constants
