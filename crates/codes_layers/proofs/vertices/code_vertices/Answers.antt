-- `codes_layers::vertices::code_vertices` meets its contract. Invariant: the vertices of the first t layers are written. Assumes nothing.
use Prim.Native.Nat.{◌+◌, ◌*◌}
use native.Mathlib.Omega.{arith}
use Rattle.columns.specs.Lists.{joined}
use Rattle.codes_writers.proofs.Wrote.{row_room}
use Rattle.codes_writers.proofs.Placing.{placed-none, placed-kept, more_room, joined-placed, joined-done}
use Rattle.codes_layers.specs.Codes.{layer_size, layer_vertices, vertices_of}
use Rattle.codes_layers.proofs.ByKind.{layers_counted}
use Rattle.codes_layers.proofs.vertices.code_vertices.Goals as goal

pub loop-t-init : goal.loop-t-init
unfolding joined
loop-t-init c = (omega arith, placed-none)

pub layer_vertices-next-requires : goal.layer_vertices-next-requires
layer_vertices-next-requires c = record { vertex_room = more_room ((c.args.rounds + 1) * layer_size c.args.kind c.args.d) (layer_size c.args.kind c.args.d) c.requires.vertex_room (omega (arith, layers_counted c.args.kind c.args.d c.loop-t.t, row_room (c.args.rounds + 1) (layer_size c.args.kind c.args.d) {row = c.loop-t.t} c.loop-t-test.true)) c.loop-t.invariant.1; le_d = omega arith }

pub loop-t-preserved : goal.loop-t-preserved
loop-t-preserved c = (omega arith, joined-placed (λ k. layer_vertices c.args.kind c.args.d k) c.loop-t.invariant.1 c.layer_vertices-next.ensures)

pub shape_of-boundary : goal.shape_of-boundary
shape_of-boundary c = (placed-kept c.loop-t.invariant.1).kept_m

pub shape_of-pos_i : goal.shape_of-pos_i
shape_of-pos_i c = (placed-kept c.loop-t.invariant.1).kept_i

pub shape_of-pos_j : goal.shape_of-pos_j
shape_of-pos_j c = (placed-kept c.loop-t.invariant.1).kept_j

pub shape_of-pos_t : goal.shape_of-pos_t
shape_of-pos_t c = (placed-kept c.loop-t.invariant.1).kept_t

pub returns : goal.returns
unfolding vertices_of
returns c = joined-done _ c.loop-t.invariant.1 c.loop-t.invariant.0 c.loop-t-test.false
