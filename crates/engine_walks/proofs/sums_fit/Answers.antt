-- `engine_walks::sums_fit` meets its contract, a theorem of `proofs/Limits.antt`. Assumes nothing.
use Rattle.engine_walks.proofs.Limits.{sums_fit}
use Rattle.engine_walks.proofs.sums_fit.Goals as goal

pub returns : goal.returns
returns c = sums_fit
