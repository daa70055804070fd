-- `engine_walks::crossing_is_least` meets its contract, a theorem of `proofs/LeastCrossing.antt`. Assumes nothing.
use Rattle.engine_walks.proofs.LeastCrossing.{crossing_is_least}
use Rattle.engine_walks.proofs.crossing_is_least.Goals as goal

pub returns : goal.returns
returns c = crossing_is_least
