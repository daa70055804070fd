-- `codes_rotated::rotated_layer` meets its contract. Invariant: the edges of the first `row` rows are written. Assumes nothing.
use Prim.Native.Nat.{◌-◌, ◌≤◌}
use Rattle.columns.specs.Lists.{joined}
use Rattle.codes_writers.specs.Steps.{Wrote}
use Rattle.codes_rotated.specs.Rotated.{rotated_row}
use Rattle.codes_rotated.proofs.rotated_layer.Given as goal

abbrev pub invariant-loop-row : goal.invariant-loop-row
invariant-loop-row l = (l.row ≤ l.d) × Wrote l.initial.ends_a l.initial.ends_b l.at (joined l.row (λ k. rotated_row l.d l.base k)) l.ends_a l.ends_b l.next
