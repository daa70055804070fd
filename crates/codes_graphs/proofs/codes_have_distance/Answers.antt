-- `codes_graphs::codes_have_distance` meets its contract, a theorem of `proofs/Distance.antt`. Assumes nothing.
use Rattle.codes_graphs.proofs.Distance.{codes_have_distance}
use Rattle.codes_graphs.proofs.codes_have_distance.Goals as goal

pub returns : goal.returns
returns c = codes_have_distance
