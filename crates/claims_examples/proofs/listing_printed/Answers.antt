-- `claims_examples::listing_printed` meets its contract, a theorem of `proofs/Printed.antt`. Assumes nothing.
use Rattle.claims_examples.proofs.Printed.{printed}
use Rattle.claims_examples.proofs.listing_printed.Goals as goal

pub returns : goal.returns
returns c = printed
