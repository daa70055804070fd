-- `columns_marks::set_marks` meets its contract. Invariant: the bytes that the first i numbers name are set. Assumes nothing.
use Prim.Native.Nat.{◌-◌, ◌≤◌}
use lib.ListN.{length, take}
use Rattle.columns_marks.proofs.Marking.{Marked}
use Rattle.columns_marks.proofs.set_marks.Given as goal

abbrev pub invariant-loop-i : goal.invariant-loop-i
invariant-loop-i l = (l.i ≤ length l.list) × Marked l.n (take l.i l.list) l.initial.column l.column
