-- `codes_circuit::circuit_row` meets its contract. Invariant: the edges from the first i places of the row are written. Assumes nothing.
use Prim.Native.Nat.{◌+◌, ◌-◌, ◌*◌, ◌≤◌}
use Rattle.columns.specs.Lists.{joined}
use Rattle.codes_writers.specs.Steps.{Wrote}
use Rattle.codes_circuit.specs.Circuit.{circuit_cell}
use Rattle.codes_circuit.proofs.circuit_row.Given as goal

abbrev pub invariant-loop-i : goal.invariant-loop-i
invariant-loop-i l = (l.i ≤ l.d - 1) × Wrote l.initial.ends_a l.initial.ends_b l.at (joined l.i (λ k. circuit_cell l.d l.size (l.base + l.row * (l.d + 1)) l.row k)) l.ends_a l.ends_b l.next
