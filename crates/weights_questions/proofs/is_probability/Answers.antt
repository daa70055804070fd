-- `weights_questions::is_probability` meets its contract: each callee promises one part. Assumes nothing.
use mathlib.Core.Bool.{◌||◌}
use Rattle.weights_recipe.specs.Probabilities.{is_probability}
use Rattle.weights_questions.proofs.is_probability.Goals as goal

pub returns : goal.returns
unfolding is_probability
returns c = λ i. c.is_plus_zero.ensures i || c.is_in_range.ensures i
