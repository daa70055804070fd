-- `weights_questions::both_in_range` meets its contract. Invariant: whether the first i numbers of both columns pass. Assumes nothing.
use mathlib.Core.Path.{◌≡◌}
use mathlib.Core.Bool.{◌&&◌}
use lib.ListN.{take}
use Rattle.columns.specs.Questions.{all}
use Rattle.weights_recipe.specs.Probabilities.{is_in_range, is_erasure_probability}
use Rattle.weights_questions.proofs.both_in_range.Given as goal

abbrev pub invariant-loop-i : goal.invariant-loop-i
invariant-loop-i l = l.pass ≡ (all is_in_range (take l.i l.p) && all is_erasure_probability (take l.i l.pe))
