-- `sampling_flips::inner_bit` meets its contract: the comparison with 0, as a number. Assumes nothing.
use Rattle.sampling_flips.proofs.Flipping.{equal_bit}
use Rattle.sampling_flips.proofs.inner_bit.Goals as goal

pub returns : goal.returns
returns c = equal_bit c.args.boundary
