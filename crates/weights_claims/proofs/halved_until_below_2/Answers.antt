-- `weights_claims::halved_until_below_2` meets its contract, a theorem of `proofs/Claims.antt`. Assumes nothing.
use Rattle.weights_claims.proofs.Claims.{halved_until_below_2}
use Rattle.weights_claims.proofs.halved_until_below_2.Goals as goal

pub returns : goal.returns
returns c = halved_until_below_2
