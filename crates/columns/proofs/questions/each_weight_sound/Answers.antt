-- `columns::questions::each_weight_sound` meets its contract: `weights_within` promises it for a prefix, which here is the whole list. Assumes nothing.
use mathlib.Core.Path.{ap, ◌∙◌}
use lib.Seq.{take-length}
use Rattle.columns.specs.Questions.{all_within}
use Rattle.columns.specs.Limits.{weight_limit}
use Rattle.columns.proofs.questions.each_weight_sound.Goals as goal

pub returns : goal.returns
returns c = let s = c.args in c.weights_within.ensures ∙ ap (all_within weight_limit) (take-length s.list.now)
