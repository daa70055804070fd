-- `codes_planar::row_edges` meets its contract. Invariant: the first i edges along the row are written. Assumes nothing.
use Prim.Native.Nat.{◌+◌, ◌-◌, ◌≤◌}
use Rattle.columns.specs.Lists.{each}
use Rattle.codes_writers.specs.Steps.{Wrote}
use Rattle.codes_planar.proofs.row_edges.Given as goal

abbrev pub invariant-loop-i : goal.invariant-loop-i
invariant-loop-i l = (l.i ≤ l.d - 1) × Wrote l.initial.ends_a l.initial.ends_b l.at (each l.i (λ k. (l.bias + k, l.bias + k + 1))) l.ends_a l.ends_b l.next
