-- `weights_questions::are_probable` meets its contract: numbers in both ranges pass, and else each callee promises one part. Assumes nothing.
use mathlib.Core.Path.{sym, ◌∙◌}
use mathlib.Core.Bool.{◌&&◌}
use lib.ListN.{take}
use Rattle.columns.specs.Questions.{all}
use Rattle.columns.proofs.Tests.{and_both, both_and}
use Rattle.weights_recipe.specs.Probabilities.{is_in_range, is_erasure_probability}
use Rattle.weights_questions.proofs.Ranges.{in_range}
use Rattle.weights_questions.proofs.are_probable.Goals as goal

pub returns-then-both_in_range : goal.returns-then-both_in_range
returns-then-both_in_range c =
    let s = c.args in
    let h = and_both (all is_in_range (take s.n s.p.now)) (all is_erasure_probability (take s.n s.pe.now)) (sym c.both_in_range.ensures ∙ c.if-both_in_range.true) in
    sym (both_and (in_range (take s.n s.p.now) h.0) h.1)
