-- `columns_marks::list_set` meets its contract: before each block of 8 the numbers below it whose byte is set are listed. Assumes nothing.
use mathlib.Core.Path.{◌≡◌}
use Prim.Native.Nat.{◌≤◌, ◌-◌}
use lib.ListN.{length}
use lib.Seq.{sets}
use Rattle.columns_marks.specs.Marks.{listed}
use Rattle.columns_marks.proofs.list_set.Given as goal

abbrev pub invariant-loop-k : goal.invariant-loop-k
invariant-loop-k l = (l.k ≤ l.n) × (l.count ≡ length (listed l.k l.column)) × (l.list ≡ sets l.initial.list 0 (listed l.k l.column))

abbrev pub decreases-loop-k : goal.decreases-loop-k
decreases-loop-k l = l.n - l.k
