-- `columns::questions::each_below` meets its contract: `all_below` promises it for a prefix, which here is the whole list. Assumes nothing.
use mathlib.Core.Path.{ap, ◌∙◌}
use lib.Seq.{take-length}
use Rattle.columns.specs.Questions.{all_below}
use Rattle.columns.proofs.questions.each_below.Goals as goal

pub returns : goal.returns
returns c = let s = c.args in c.all_below.ensures ∙ ap (all_below s.limit) (take-length s.list.now)
