-- `codes_circuit::circuit_row` meets its contract. Invariant: the edges from the first i places of the row are written. Assumes nothing.
use Prim.Native.Nat.{◌+◌, ◌-◌, ◌*◌}
use native.Mathlib.Omega.{arith}
use Rattle.columns.specs.Lists.{joined}
use Rattle.codes_writers.proofs.Wrote.{wrote_none, wrote-a, wrote-b, joined-fits, joined-turn, joined_end}
use Rattle.codes_circuit.specs.Circuit.{circuit_cell, circuit_row}
use Rattle.codes_circuit.proofs.circuit_row.Goals as goal

pub loop-i-init : goal.loop-i-init
unfolding joined
loop-i-init c = (omega arith, wrote_none)

pub circuit_cell-next-requires : goal.circuit_cell-next-requires
unfolding circuit_row
circuit_cell-next-requires c = record { room = joined-fits (λ k. circuit_cell c.args.d c.args.size (c.args.base + c.args.row * (c.args.d + 1)) c.args.row k) (c.args.d - 1) c.requires.room c.loop-i.invariant.1 c.loop-i-test.true; le_d = omega arith }

pub loop-i-preserved : goal.loop-i-preserved
loop-i-preserved c = (omega arith, joined-turn (λ k. circuit_cell c.args.d c.args.size (c.args.base + c.args.row * (c.args.d + 1)) c.args.row k) c.loop-i.invariant.1 c.circuit_cell-next.ensures)

pub shape_of-ends_a : goal.shape_of-ends_a
shape_of-ends_a c = wrote-a c.loop-i.invariant.1

pub shape_of-ends_b : goal.shape_of-ends_b
shape_of-ends_b c = wrote-b c.loop-i.invariant.1

pub returns : goal.returns
unfolding circuit_row
returns c = joined_end _ c.loop-i.invariant.1 c.loop-i.invariant.0 c.loop-i-test.false
