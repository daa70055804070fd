-- `engine_walks::certificate_decides` meets its contract, a theorem of `proofs/LeastCrossing.antt`. Assumes nothing.
use Rattle.engine_walks.proofs.LeastCrossing.{certificate_decides}
use Rattle.engine_walks.proofs.certificate_decides.Goals as goal

pub returns : goal.returns
returns c = certificate_decides
