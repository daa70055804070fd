-- `codes_planar::capacity_vertex` meets its contract: the callees promise the boundary byte and the position across, of which `capacity_vertex` is made. Assumes nothing.
use mathlib.Core.Path.{ap, ◌∙◌}
use lib.Ieee.{Float}
use Rattle.columns.specs.Places.{zero_float, position}
use Rattle.codes_writers.specs.Edges.{float}
use Rattle.codes_planar.specs.Planar.{capacity_vertex}
use Rattle.codes_planar.proofs.capacity_vertex.Goals as goal

pub returns : goal.returns
unfolding capacity_vertex
returns c = (λ k. record { boundary = c.planar_boundary-boundary.ensures k; position = (c.new-position.ensures ∙ ap (λ (x : Float). position (float c.args.row) x zero_float) c.planar_across-across.ensures) k })
