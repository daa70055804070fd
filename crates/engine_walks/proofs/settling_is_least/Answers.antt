-- `engine_walks::settling_is_least` meets its contract, a theorem of `proofs/TableAndPath.antt`. Assumes nothing.
use Rattle.engine_walks.proofs.TableAndPath.{settling_is_least}
use Rattle.engine_walks.proofs.settling_is_least.Goals as goal

pub returns : goal.returns
returns c = settling_is_least
