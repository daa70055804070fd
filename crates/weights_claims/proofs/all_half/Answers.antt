-- `weights_claims::all_half` meets its contract, a theorem of `proofs/Claims.antt`. Assumes nothing.
use Rattle.weights_claims.proofs.Claims.{all-half_ten}
use Rattle.weights_claims.proofs.all_half.Goals as goal

pub returns : goal.returns
returns c = all-half_ten
