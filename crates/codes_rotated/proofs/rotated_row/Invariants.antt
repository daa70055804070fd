-- `codes_rotated::rotated_row` meets its contract. Invariant: the first i edges of the row are written. Assumes nothing.
use Prim.Native.Nat.{◌+◌, ◌-◌, ◌*◌, ◌≤◌}
use Rattle.columns.specs.Lists.{each}
use Rattle.codes_writers.specs.Steps.{Wrote}
use Rattle.codes_rotated.specs.Rotated.{rotated_width, rotated_edge}
use Rattle.codes_rotated.proofs.rotated_row.Given as goal

abbrev pub invariant-loop-i : goal.invariant-loop-i
invariant-loop-i l = (l.i ≤ l.d) × Wrote l.initial.ends_a l.initial.ends_b l.at (each l.i (λ k. rotated_edge (rotated_width l.d) (l.base + l.row * rotated_width l.d) l.row k)) l.ends_a l.ends_b l.next
