-- `engine_walks::path_is_least` meets its contract, a theorem of `proofs/TableAndPath.antt`. Assumes nothing.
use Rattle.engine_walks.proofs.TableAndPath.{path_is_least}
use Rattle.engine_walks.proofs.path_is_least.Goals as goal

pub returns : goal.returns
returns c = path_is_least
