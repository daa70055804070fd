-- `columns::questions::boundaries_sound` meets its contract: it hands on what `bytes_within` promises. Assumes nothing.
use Rattle.columns.proofs.questions.boundaries_sound.Goals as goal

pub returns : goal.returns
returns c = c.bytes_within.ensures
