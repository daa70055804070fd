-- `text_input::read_line` meets its contract: a line of more than 57 bytes is not well-formed, else `read_short` promises it. Assumes nothing.
use Rattle.text_input.proofs.Lines.{too_long}
use Rattle.text_input.proofs.read_line.Goals as goal

pub returns-then-text-gt-LONGEST : goal.returns-then-text-gt-LONGEST
returns-then-text-gt-LONGEST c = too_long c.args.text.now c.if-text-gt-LONGEST.true
