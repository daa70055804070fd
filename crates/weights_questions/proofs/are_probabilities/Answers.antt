-- `weights_questions::are_probabilities` meets its contract: numbers in range are probabilities. Assumes nothing.
use mathlib.Core.Path.{sym, ◌∙◌}
use lib.ListN.{take}
use Rattle.weights_questions.proofs.Ranges.{in_range}
use Rattle.weights_questions.proofs.are_probabilities.Goals as goal

pub returns-then-are_in_range : goal.returns-then-are_in_range
returns-then-are_in_range c =
    let s = c.args in
    sym (in_range (take s.n s.p.now) (sym c.are_in_range.ensures ∙ c.if-are_in_range.true))
