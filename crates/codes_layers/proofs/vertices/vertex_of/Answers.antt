-- `codes_layers::vertices::vertex_of` meets its contract: each case of the kind is that of `vertex_of`, and the callee there promises the vertex. Assumes nothing.
use mathlib.Core.Path.{ap, ◌∙◌}
use lib.Ieee.{Float}
use borrow.Author.Tests.{le-leb, lt-leb}
use Rattle.codes_rotated.specs.Rotated.{rotated_width, rotated_vertex}
use Rattle.codes_layers.specs.Codes.{vertex_of}
use Rattle.codes_layers.proofs.vertices.vertex_of.Goals as goal

pub returns-then-kind-le2 : goal.returns-then-kind-le2
unfolding vertex_of
returns-then-kind-le2 c = simp (le-leb _ _ c.if-kind-le2.true) c.capacity_vertex.ensures

pub returns-then-kind-le4 : goal.returns-then-kind-le4
unfolding vertex_of
returns-then-kind-le4 c = simp (lt-leb _ _ c.if-kind-le2.false, le-leb _ _ c.if-kind-le4.true) c.layer_vertex.ensures

pub returns : goal.returns
unfolding vertex_of
returns c = simp (lt-leb _ _ c.if-kind-le2.false, lt-leb _ _ c.if-kind-le4.false) (c.rotated_vertex.ensures ∙ ap (λ (x : Float). rotated_vertex (rotated_width c.args.d) c.args.row c.args.i x) c.time_of-time.ensures)
