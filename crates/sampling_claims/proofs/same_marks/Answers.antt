-- `sampling_claims::same_marks` meets its contract, a theorem of `proofs/Samplings.antt`. Assumes nothing.
use Rattle.sampling_claims.proofs.Samplings.{same_marks}
use Rattle.sampling_claims.proofs.same_marks.Goals as goal

pub returns : goal.returns
returns c = same_marks
