-- `codes_rotated::rotated_vertex` meets its contract: the callees promise the boundary byte and the shift, of which `rotated_vertex` is made. Assumes nothing.
use mathlib.Core.Path.{ap, ◌∙◌}
use Prim.Native.Nat.{ℕ, ◌+◌, ◌*◌}
use Rattle.columns.specs.Places.{position}
use Rattle.codes_writers.specs.Edges.{float}
use Rattle.codes_rotated.specs.Rotated.{rotated_vertex}
use Rattle.codes_rotated.proofs.rotated_vertex.Goals as goal

pub returns : goal.returns
unfolding rotated_vertex
returns c = (λ k. record { boundary = c.rotated_boundary-boundary.ensures k; position = (c.new-position.ensures ∙ ap (λ (x : ℕ). position (float c.args.row) (float (c.args.i * 2 + x)) c.args.time) c.rotated_shift-shift.ensures.1) k })
