-- `engine_walks::table_is_least` meets its contract, a theorem of `proofs/TableAndPath.antt`. Assumes nothing.
use Rattle.engine_walks.proofs.TableAndPath.{table_is_least}
use Rattle.engine_walks.proofs.table_is_least.Goals as goal

pub returns : goal.returns
returns c = table_is_least
