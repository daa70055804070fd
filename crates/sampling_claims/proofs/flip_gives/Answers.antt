-- `sampling_claims::flip_gives` meets its contract, a theorem of `proofs/Flips.antt`. Assumes nothing.
use Rattle.sampling_claims.proofs.Flips.{flip_gives}
use Rattle.sampling_claims.proofs.flip_gives.Goals as goal

pub returns : goal.returns
returns c = flip_gives
