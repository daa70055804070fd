-- `reorder_claims::reordering_keeps` meets its contract, a theorem of `proofs/Syndromes.antt`. Assumes nothing.
use Rattle.reorder_claims.proofs.Syndromes.{reordering_keeps}
use Rattle.reorder_claims.proofs.reordering_keeps.Goals as goal

pub returns : goal.returns
returns c = reordering_keeps
