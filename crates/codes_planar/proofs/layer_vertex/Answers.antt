-- `codes_planar::layer_vertex` meets its contract: the callees promise the boundary byte and the position across, of which `layer_vertex` is made. Assumes nothing.
use mathlib.Core.Path.{ap, ◌∙◌}
use lib.Ieee.{Float, binary64, add}
use Rattle.columns.specs.Places.{position, half}
use Rattle.codes_writers.specs.Edges.{float}
use Rattle.codes_planar.specs.Planar.{layer_vertex}
use Rattle.codes_planar.proofs.layer_vertex.Goals as goal

pub returns : goal.returns
unfolding layer_vertex
returns c = (λ k. record { boundary = c.planar_boundary-boundary.ensures k; position = (c.new-position.ensures ∙ ap (λ (x : Float). position (float c.args.row) (add binary64 x half) (float c.args.t)) c.planar_across-across.ensures) k })
