-- `access_claims::getter_lists` meets its contract, a theorem of `proofs/Listed.antt`. Assumes nothing.
use Rattle.access_claims.proofs.Listed.{getter_lists}
use Rattle.access_claims.proofs.getter_lists.Goals as goal

pub returns : goal.returns
returns c = getter_lists
