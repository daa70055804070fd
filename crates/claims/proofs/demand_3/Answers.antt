-- `claims::demand_3` meets its contract, a theorem of `proofs/Proved.antt`. Assumes nothing.
use Rattle.claims.proofs.Proved.{demand_3}
use Rattle.claims.proofs.demand_3.Goals as goal

pub returns : goal.returns
returns c = demand_3
