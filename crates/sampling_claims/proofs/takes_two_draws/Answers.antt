-- `sampling_claims::takes_two_draws` meets its contract, a theorem of `proofs/Samplings.antt`. Assumes nothing.
use Rattle.sampling_claims.proofs.Samplings.{takes_two_draws}
use Rattle.sampling_claims.proofs.takes_two_draws.Goals as goal

pub returns : goal.returns
returns c = takes_two_draws
