-- `engine_walks::weights_compare` meets its contract, a theorem of `proofs/TwoGraphs.antt`. Assumes nothing.
use Rattle.engine_walks.proofs.TwoGraphs.{weights_compare}
use Rattle.engine_walks.proofs.weights_compare.Goals as goal

pub returns : goal.returns
returns c = weights_compare
