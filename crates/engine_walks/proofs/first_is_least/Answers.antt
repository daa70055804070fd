-- `engine_walks::first_is_least` meets its contract, a theorem of `proofs/FirstLeast.antt`. Assumes nothing.
use Rattle.engine_walks.proofs.FirstLeast.{first-least}
use Rattle.engine_walks.proofs.first_is_least.Goals as goal

pub returns : goal.returns
returns c = first-least
