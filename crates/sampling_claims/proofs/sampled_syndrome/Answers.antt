-- `sampling_claims::sampled_syndrome` meets its contract, a theorem of `proofs/Samplings.antt`. Assumes nothing.
use Rattle.sampling_claims.proofs.Samplings.{sampled_syndrome}
use Rattle.sampling_claims.proofs.sampled_syndrome.Goals as goal

pub returns : goal.returns
returns c = sampled_syndrome
