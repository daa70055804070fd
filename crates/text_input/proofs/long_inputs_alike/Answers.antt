-- `text_input::long_inputs_alike` meets its contract, a theorem of `proofs/Lines.antt`. Assumes nothing.
use Rattle.text_input.proofs.Lines.{long_inputs_alike}
use Rattle.text_input.proofs.long_inputs_alike.Goals as goal

pub returns : goal.returns
returns c = long_inputs_alike
