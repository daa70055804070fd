-- `engine_tally::weighs_last_named` meets its contract, a theorem of `proofs/LastNamed.antt`. Assumes nothing.
use Rattle.engine_tally.proofs.LastNamed.{weighs_last_named}
use Rattle.engine_tally.proofs.weighs_last_named.Goals as goal

pub returns : goal.returns
returns c = weighs_last_named
