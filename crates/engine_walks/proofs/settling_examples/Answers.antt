-- `engine_walks::settling_examples` meets its contract, a theorem of `proofs/Computed.antt`. Assumes nothing.
use Rattle.engine_walks.proofs.Computed.{examples}
use Rattle.engine_walks.proofs.settling_examples.Goals as goal

pub returns : goal.returns
returns c = examples
