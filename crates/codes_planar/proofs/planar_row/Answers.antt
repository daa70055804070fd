-- `codes_planar::planar_row` meets its contract: `row_edges` writes the edges along the row, then `straight_edges` those to the next row. Assumes nothing.
use mathlib.Core.Path.{sym, ◌∙◌}
use native.Mathlib.Omega.{arith}
use Rattle.codes_writers.proofs.Wrote.{wrote-a, wrote-b, wrote_as, wrote_then, room_first, room-then, room_as}
use Rattle.codes_planar.proofs.Rows.{row_parts}
use Rattle.codes_planar.proofs.planar_row.Goals as goal

pub row_edges-next-requires : goal.row_edges-next-requires
row_edges-next-requires c = record { room = room_first _ _ (room_as (row_parts c.args.d c.args.base c.args.row c.downward-down.ensures.0) c.requires.room); le_d = omega (arith, c.requires.le_d) }

pub straight_edges-requires : goal.straight_edges-requires
straight_edges-requires c = record { room = room-then _ (room_as (row_parts c.args.d c.args.base c.args.row c.downward-down.ensures.0) c.requires.room) c.row_edges-next.ensures; n_bound = omega arith }

pub shape_of-ends_a : goal.shape_of-ends_a
shape_of-ends_a c = wrote-a c.straight_edges.ensures ∙ wrote-a c.row_edges-next.ensures

pub shape_of-ends_b : goal.shape_of-ends_b
shape_of-ends_b c = wrote-b c.straight_edges.ensures ∙ wrote-b c.row_edges-next.ensures

pub returns : goal.returns
returns c = wrote_as (sym (row_parts c.args.d c.args.base c.args.row c.downward-down.ensures.0)) (wrote_then c.row_edges-next.ensures c.straight_edges.ensures)
