-- `sampling_claims::errors_flip` meets its contract, a theorem of `proofs/Flips.antt`. Assumes nothing.
use Rattle.sampling_claims.proofs.Flips.{errors_flip}
use Rattle.sampling_claims.proofs.errors_flip.Goals as goal

pub returns : goal.returns
returns c = errors_flip
