-- `codes_planar::planar_layer` meets its contract. Invariant: the edges of the first `row` rows are written. Assumes nothing.
use Prim.Native.Nat.{◌+◌}
use native.Mathlib.Omega.{arith}
use Rattle.columns.specs.Lists.{joined}
use Rattle.codes_writers.proofs.Wrote.{wrote_none, wrote-a, wrote-b, joined-fits, joined-turn, joined_end, row_room}
use Rattle.codes_planar.specs.Planar.{planar_row, planar_layer}
use Rattle.codes_planar.proofs.planar_layer.Goals as goal

pub loop-row-init : goal.loop-row-init
unfolding joined
loop-row-init c = (omega arith, wrote_none)

pub planar_row-next-requires : goal.planar_row-next-requires
unfolding planar_layer
planar_row-next-requires c = record { room = joined-fits (λ k. planar_row c.args.d c.args.base k) c.args.d c.requires.room c.loop-row.invariant.1 c.loop-row-test.true; le_d = omega (arith, c.requires.le_d, row_room c.args.d (c.args.d + 1) c.loop-row-test.true) }

pub loop-row-preserved : goal.loop-row-preserved
loop-row-preserved c = (omega arith, joined-turn (λ k. planar_row c.args.d c.args.base k) c.loop-row.invariant.1 c.planar_row-next.ensures)

pub shape_of-ends_a : goal.shape_of-ends_a
shape_of-ends_a c = wrote-a c.loop-row.invariant.1

pub shape_of-ends_b : goal.shape_of-ends_b
shape_of-ends_b c = wrote-b c.loop-row.invariant.1

pub returns : goal.returns
unfolding planar_layer
returns c = joined_end _ c.loop-row.invariant.1 c.loop-row.invariant.0 c.loop-row-test.false
