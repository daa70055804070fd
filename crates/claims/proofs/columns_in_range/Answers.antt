-- `claims::columns_in_range` meets its contract, a theorem of `proofs/Questions.antt`. Assumes nothing.
use Rattle.claims.proofs.Questions.{columns_in_range}
use Rattle.claims.proofs.columns_in_range.Goals as goal

pub returns : goal.returns
returns c = columns_in_range
