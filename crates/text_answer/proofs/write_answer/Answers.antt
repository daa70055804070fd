-- `text_answer::write_answer` meets its contract: a line that is not well formed has the text of refusal 1; the check finds the other case. Assumes nothing.
use Rattle.text_answer.proofs.Texts.{damaged_line}
use Rattle.text_answer.proofs.write_answer.Goals as goal

pub returns-in-None : goal.returns-in-None
returns-in-None c = damaged_line c.args.line c.write_refusal.ensures (let t = c.in-None.is in cc)
