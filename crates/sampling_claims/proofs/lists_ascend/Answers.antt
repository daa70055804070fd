-- `sampling_claims::lists_ascend` meets its contract, a theorem of `proofs/Lists.antt`. Assumes nothing.
use Rattle.sampling_claims.proofs.Lists.{lists_ascend}
use Rattle.sampling_claims.proofs.lists_ascend.Goals as goal

pub returns : goal.returns
returns c = lists_ascend
