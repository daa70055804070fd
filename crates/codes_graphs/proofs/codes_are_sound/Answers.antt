-- `codes_graphs::codes_are_sound` meets its contract, a theorem of `proofs/Sound.antt`. Assumes nothing.
use Rattle.codes_graphs.proofs.Sound.{codes_are_sound}
use Rattle.codes_graphs.proofs.codes_are_sound.Goals as goal

pub returns : goal.returns
returns c = codes_are_sound
