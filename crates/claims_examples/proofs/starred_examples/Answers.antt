-- `claims_examples::starred_examples` meets its contract, a theorem of `proofs/Computed.antt`. Assumes nothing.
use Rattle.claims_examples.proofs.Computed.{starred}
use Rattle.claims_examples.proofs.starred_examples.Goals as goal

pub returns : goal.returns
returns c = starred
