-- `weights_calls::largest_by_table` meets its contract. Invariant: the largest weight of the first i edges, and the table is right. Assumes nothing.
use mathlib.Core.Path.{refl, sym, ap, ◌∙◌}
use native.Mathlib.Omega.{arith}
use lib.ListN.{take, get_or}
use lib.Ieee.{Float, nan}
use Rattle.columns.specs.Places.{zero_float}
use Rattle.weights_recipe.specs.Logarithm.{edge_weight}
use Rattle.weights_calls.specs.Calls.{larger, largest, edge_weights, largest_weight}
use Rattle.columns.proofs.Refusals.{map_more}
use Rattle.weights_calls.proofs.Largest.{largest_more}
use Rattle.weights_calls.proofs.largest_by_table.Goals as goal

pub loop-i-init : goal.loop-i-init
unfolding largest
loop-i-init c = (refl, c.requires)

pub loop-i-preserved : goal.loop-i-preserved
loop-i-preserved c =
    let ps = c.args.p.now in
    let at = c.loop-i in
    let got = c.known.ensures (λ w. w) (λ p r h. h) at.invariant.1 in (
      c.larger_weight-largest.ensures ∙ ap (λ (m : Float). larger m c.known.result) at.invariant.0
          ∙ ap (larger (largest_weight (take at.i ps))) got.0
          ∙ sym (ap (largest zero_float) (map_more ps edge_weight nan at.i (omega arith)) ∙ largest_more zero_float (edge_weights (take at.i ps)) (edge_weight (get_or ps at.i nan))),
      got.1,
    )
