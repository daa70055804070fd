-- `codes_layers::vertices::layer_vertices` meets its contract. Invariant: the vertices of the first `row` rows of the layer are written. Assumes nothing.
use native.Mathlib.Omega.{arith}
use Rattle.columns.specs.Lists.{each, joined}
use Rattle.codes_writers.proofs.Wrote.{row_room}
use Rattle.codes_writers.proofs.Placing.{placed-none, placed-kept, more_room, joined-placed, joined-done}
use Rattle.codes_layers.specs.Codes.{rows, width, layer_size, vertex_of, layer_vertices}
use Rattle.codes_layers.proofs.ByKind.{rows_counted}
use Rattle.codes_layers.proofs.vertices.layer_vertices.Goals as goal

pub loop-row-init : goal.loop-row-init
unfolding joined
loop-row-init c = (omega arith, placed-none)

pub row_vertices-next-requires : goal.row_vertices-next-requires
row_vertices-next-requires c = record { vertex_room = more_room (layer_size c.args.kind c.args.d) (width c.args.kind c.args.d) c.requires.vertex_room (omega (arith, rows_counted c.args.kind c.args.d c.args.t c.loop-row.row, row_room (rows c.args.kind c.args.d) (width c.args.kind c.args.d) {row = c.loop-row.row} (omega (arith, c.rows_of-rows.ensures)))) c.loop-row.invariant.1; le_d = omega arith }

pub loop-row-preserved : goal.loop-row-preserved
loop-row-preserved c = (omega arith, joined-placed (λ k. each (width c.args.kind c.args.d) (λ i. vertex_of c.args.kind c.args.d c.args.t k i)) c.loop-row.invariant.1 c.row_vertices-next.ensures)

pub shape_of-boundary : goal.shape_of-boundary
shape_of-boundary c = (placed-kept c.loop-row.invariant.1).kept_m

pub shape_of-pos_i : goal.shape_of-pos_i
shape_of-pos_i c = (placed-kept c.loop-row.invariant.1).kept_i

pub shape_of-pos_j : goal.shape_of-pos_j
shape_of-pos_j c = (placed-kept c.loop-row.invariant.1).kept_j

pub shape_of-pos_t : goal.shape_of-pos_t
shape_of-pos_t c = (placed-kept c.loop-row.invariant.1).kept_t

pub returns : goal.returns
unfolding layer_vertices
returns c = joined-done _ c.loop-row.invariant.1 (omega (arith, c.loop-row.invariant.0, c.rows_of-rows.ensures)) (omega (arith, c.loop-row-test.false, c.rows_of-rows.ensures))
