-- `access_claims::set_then_get` meets its contract, a theorem of `proofs/Listed.antt`. Assumes nothing.
use Rattle.access_claims.proofs.Listed.{set_then_get}
use Rattle.access_claims.proofs.set_then_get.Goals as goal

pub returns : goal.returns
returns c = set_then_get
