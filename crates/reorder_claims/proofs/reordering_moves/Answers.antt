-- `reorder_claims::reordering_moves` meets its contract, a theorem of `proofs/Moved.antt`. Assumes nothing.
use Rattle.reorder_claims.proofs.Moved.{reordering_moves}
use Rattle.reorder_claims.proofs.reordering_moves.Goals as goal

pub returns : goal.returns
returns c = reordering_moves
