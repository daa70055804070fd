-- `codes_writers::straight_edges` meets its contract. Invariant: the first i edges are written. Assumes nothing.
use Prim.Native.Nat.{◌+◌, ◌-◌, ◌≤◌}
use Rattle.columns.specs.Lists.{each}
use Rattle.codes_writers.specs.Steps.{Wrote}
use Rattle.codes_writers.proofs.straight_edges.Given as goal

abbrev pub invariant-loop-i : goal.invariant-loop-i
invariant-loop-i l = (l.i ≤ l.n) × Wrote l.initial.ends_a l.initial.ends_b l.at (each l.i (λ k. (l.bias + k, l.bias + k + l.far))) l.ends_a l.ends_b l.next
