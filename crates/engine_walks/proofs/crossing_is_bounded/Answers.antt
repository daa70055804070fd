-- `engine_walks::crossing_is_bounded` meets its contract, a theorem of `proofs/LeastCrossing.antt`. Assumes nothing.
use Rattle.engine_walks.proofs.LeastCrossing.{crossing_is_bounded}
use Rattle.engine_walks.proofs.crossing_is_bounded.Goals as goal

pub returns : goal.returns
returns c = crossing_is_bounded
