-- `columns_room::sum_within` meets its contract: after i turns the sum is that of the first i lengths. Assumes nothing.
use mathlib.Core.Path.{◌≡◌}
use Prim.Native.Nat.{◌≤◌}
use Rattle.columns_neighbors.specs.Lists.{sum_to}
use Rattle.columns_room.proofs.sum_within.Given as goal

abbrev pub invariant-loop-i : goal.invariant-loop-i
invariant-loop-i l = record { sum_is : l.sum ≡ sum_to l.i l.lengths; within : l.sum ≤ l.limit }
