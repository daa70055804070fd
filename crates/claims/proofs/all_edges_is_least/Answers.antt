-- `claims::all_edges_is_least` meets its contract, a theorem of `proofs/Tables.antt`. Assumes nothing.
use Rattle.claims.proofs.Tables.{all-edges_least}
use Rattle.claims.proofs.all_edges_is_least.Goals as goal

pub returns : goal.returns
returns c = all-edges_least
