-- `codes_writers::straight_rows` meets its contract. Invariant: the edges of the first `row` rows are written. Assumes nothing.
use Rattle.codes_writers.proofs.Wrote.{row_room, wrote_none, wrote-a, wrote-b, joined-fits, joined-turn, joined_end}
use Prim.Native.Nat.{◌+◌, ◌*◌}
use native.Mathlib.Omega.{arith}
use Rattle.columns.specs.Lists.{joined}
use Rattle.codes_writers.specs.Edges.{straight_edges, straight_rows}
use Rattle.codes_writers.proofs.straight_rows.Goals as goal

pub loop-row-init : goal.loop-row-init
unfolding joined
loop-row-init c = (omega arith, wrote_none)

pub overflow_mul-row : goal.overflow_mul-row
overflow_mul-row c = omega (arith, row_room c.args.rows c.args.w c.loop-row-test.true)

pub overflow_add-base : goal.overflow_add-base
overflow_add-base c = omega (arith, row_room c.args.rows c.args.w c.loop-row-test.true)

pub straight_edges-next-requires : goal.straight_edges-next-requires
unfolding straight_rows
straight_edges-next-requires c = record { room = joined-fits (λ k. straight_edges c.args.n (c.args.base + k * c.args.w) c.args.far) c.args.rows c.requires.room c.loop-row.invariant.1 c.loop-row-test.true; n_bound = omega (arith, row_room c.args.rows c.args.w c.loop-row-test.true) }

pub loop-row-preserved : goal.loop-row-preserved
loop-row-preserved c = (omega arith, joined-turn (λ k. straight_edges c.args.n (c.args.base + k * c.args.w) c.args.far) c.loop-row.invariant.1 c.straight_edges-next.ensures)

pub shape_of-ends_a : goal.shape_of-ends_a
shape_of-ends_a c = wrote-a c.loop-row.invariant.1

pub shape_of-ends_b : goal.shape_of-ends_b
shape_of-ends_b c = wrote-b c.loop-row.invariant.1

pub returns : goal.returns
unfolding straight_rows
returns c = joined_end _ c.loop-row.invariant.1 c.loop-row.invariant.0 c.loop-row-test.false
