-- `codes_writers::straight_rows` meets its contract. Invariant: the edges of the first `row` rows are written. Assumes nothing.
use Prim.Native.Nat.{◌+◌, ◌-◌, ◌*◌, ◌≤◌}
use Rattle.columns.specs.Lists.{joined}
use Rattle.codes_writers.specs.Edges.{straight_edges}
use Rattle.codes_writers.specs.Steps.{Wrote}
use Rattle.codes_writers.proofs.straight_rows.Given as goal

abbrev pub invariant-loop-row : goal.invariant-loop-row
invariant-loop-row l = (l.row ≤ l.rows) × Wrote l.initial.ends_a l.initial.ends_b l.at (joined l.row (λ k. straight_edges l.n (l.base + k * l.w) l.far)) l.ends_a l.ends_b l.next
