-- `claims::crossing_call_is_least` meets its contract, a theorem of `proofs/Crossings.antt`. Assumes nothing.
use Rattle.claims.proofs.Crossings.{crossing_call_least}
use Rattle.claims.proofs.crossing_call_is_least.Goals as goal

pub returns : goal.returns
returns c = crossing_call_least
