-- `codes_planar::planar_layer` meets its contract. Invariant: the edges of the first `row` rows are written. Assumes nothing.
use Prim.Native.Nat.{◌-◌, ◌≤◌}
use Rattle.columns.specs.Lists.{joined}
use Rattle.codes_writers.specs.Steps.{Wrote}
use Rattle.codes_planar.specs.Planar.{planar_row}
use Rattle.codes_planar.proofs.planar_layer.Given as goal

abbrev pub invariant-loop-row : goal.invariant-loop-row
invariant-loop-row l = (l.row ≤ l.d) × Wrote l.initial.ends_a l.initial.ends_b l.at (joined l.row (λ k. planar_row l.d l.base k)) l.ends_a l.ends_b l.next
