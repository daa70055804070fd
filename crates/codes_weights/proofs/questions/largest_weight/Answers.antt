-- `codes_weights::questions::largest_weight` meets its contract: the callees promise the weights, and each arm returns what `largest_of` picks. Assumes nothing.
use mathlib.Core.Path.{sym, ap, ◌∙◌}
use mathlib.Core.Bool.{Bool, cond}
use lib.Ieee.{Float}
use borrow.Author.Tests.{eq-eqb, ne_eqb}
use Rattle.columns.specs.Places.{zero_float}
use Rattle.weights_recipe.specs.Logarithm.{edge_weight}
use Rattle.weights_calls.specs.Calls.{larger}
use Rattle.codes_weights.specs.Steps.{diagonal_p, largest_of}
use Rattle.codes_weights.proofs.questions.largest_weight.Goals as goal

pub returns-then-rounds-eq0 : goal.returns-then-rounds-eq0
unfolding largest_of
returns-then-rounds-eq0 c =
    let s = c.args in
    let straight : Float = larger zero_float (edge_weight s.p) in
    c.larger_weight-straight.ensures ∙ ap (larger zero_float) c.edge_weight.ensures
    ∙ sym (ap (λ (b : Bool). cond b straight (larger straight (edge_weight (diagonal_p s.p s.diagonal)))) (eq-eqb s.rounds 0 c.if-rounds-eq0.true))

pub returns-else-rounds-eq0 : goal.returns-else-rounds-eq0
unfolding largest_of
returns-else-rounds-eq0 c =
    let s = c.args in
    let straight : Float = larger zero_float (edge_weight s.p) in
    let first = c.larger_weight-straight.ensures ∙ ap (larger zero_float) c.edge_weight.ensures in
    let other = c.edge_weight-2.ensures ∙ ap edge_weight c.diagonal_p.ensures in
    c.larger_weight-largest.ensures ∙ (λ k. larger (first k) (other k))
    ∙ sym (ap (λ (b : Bool). cond b straight (larger straight (edge_weight (diagonal_p s.p s.diagonal)))) (ne_eqb s.rounds 0 c.if-rounds-eq0.false))
