-- `sampling_calls::find_defects` meets its contract: the array holds 0 alone, as `collect_defects` requires. Assumes nothing.
use Rattle.columns_pairs.proofs.PairTests.{zeros_at}
use Rattle.sampling_calls.proofs.find_defects.Goals as goal

pub collect_defects-requires-clause-by_index : goal.collect_defects-requires-clause-by_index
collect_defects-requires-clause-by_index c = (c.requires.by_index_2, zeros_at 4096)
