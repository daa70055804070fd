-- `weights_calls::known::half_weight_of` meets its contract: `half_weight` promises it of the weight that `edge_weight` promises. Assumes nothing.
use mathlib.Core.Path.{ap, ◌∙◌}
use lib.Ieee.{Float}
use Rattle.weights_recipe.specs.Rounding.{half_weight}
use Rattle.weights_calls.proofs.known.half_weight_of.Goals as goal

pub returns : goal.returns
returns c =
    let s = c.args in
    c.half_weight.ensures ∙ ap (λ (w : Float). half_weight s.max_half_weight w s.largest) c.edge_weight.ensures
