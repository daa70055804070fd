-- `sampling_generator::DeterministicRng::seed_from_u64` meets its contract: `split_mix_next` and `split_mix_word` promise each state and each word. Assumes nothing.
use Rattle.sampling_generator.specs.Random.{seed_from_u64}
use Rattle.sampling_generator.proofs.DeterministicRng.seed_from_u64.Goals as goal

pub returns : goal.returns
unfolding seed_from_u64
returns c = cc
