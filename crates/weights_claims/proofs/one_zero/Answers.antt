-- `weights_claims::one_zero` meets its contract, a theorem of `proofs/Claims.antt`. Assumes nothing.
use Rattle.weights_claims.proofs.Claims.{one_zero_one}
use Rattle.weights_claims.proofs.one_zero.Goals as goal

pub returns : goal.returns
returns c = one_zero_one
