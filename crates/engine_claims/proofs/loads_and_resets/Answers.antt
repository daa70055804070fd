-- `engine_claims::loads_and_resets` meets its contract, a theorem of `proofs/Called.antt`. Assumes nothing.
use Rattle.engine_claims.proofs.Called.{loads_and_resets}
use Rattle.engine_claims.proofs.loads_and_resets.Goals as goal

pub returns : goal.returns
returns c = loads_and_resets
