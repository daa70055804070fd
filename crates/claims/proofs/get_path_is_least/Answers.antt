-- `claims::get_path_is_least` meets its contract, a theorem of `proofs/Paths.antt`. Assumes nothing.
use Rattle.claims.proofs.Paths.{get_path_least}
use Rattle.claims.proofs.get_path_is_least.Goals as goal

pub returns : goal.returns
returns c = get_path_least
