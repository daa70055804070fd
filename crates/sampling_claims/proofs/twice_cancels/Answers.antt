-- `sampling_claims::twice_cancels` meets its contract, a theorem of `proofs/Flips.antt`. Assumes nothing.
use Rattle.sampling_claims.proofs.Flips.{twice_cancels}
use Rattle.sampling_claims.proofs.twice_cancels.Goals as goal

pub returns : goal.returns
returns c = twice_cancels
