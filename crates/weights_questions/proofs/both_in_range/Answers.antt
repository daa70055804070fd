-- `weights_questions::both_in_range` meets its contract. Invariant: whether the first i numbers of both columns pass. Assumes nothing.
use mathlib.Core.Path.{refl, sym, ◌∙◌}
use mathlib.Core.Bool.{Bool, ◌&&◌}
use native.Mathlib.Omega.{arith}
use lib.ListN.{take}
use lib.Ieee.{nan}
use Rattle.columns.specs.Questions.{all}
use Rattle.columns.proofs.Tests.{all-next}
use Rattle.weights_recipe.specs.Probabilities.{is_in_range, is_erasure_probability}
use Rattle.weights_questions.proofs.Ranges.{crossed}
use Rattle.weights_questions.proofs.both_in_range.Goals as goal

pub loop-i-init : goal.loop-i-init
unfolding all
loop-i-init c = refl

pub loop-i-preserved : goal.loop-i-preserved
loop-i-preserved c =
    let s = c.args in
    let at = c.loop-i in
    let e = c.is_in_range.ensures in
    let f = c.is_erasure_probability.ensures in
    let a : Bool = all is_in_range (take at.i s.p.now) in
    let d : Bool = all is_erasure_probability (take at.i s.pe.now) in
    (λ i. at.invariant i && (e i && f i))
    ∙ crossed a d _ _
    ∙ (λ i. (sym (all-next is_in_range s.p.now nan at.i (omega arith))) i && (sym (all-next is_erasure_probability s.pe.now nan at.i (omega arith))) i)
