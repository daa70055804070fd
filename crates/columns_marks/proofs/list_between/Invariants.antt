-- `columns_marks::list_between` meets its contract: before turn k the numbers below k whose byte is set are listed. Assumes nothing.
use mathlib.Core.Path.{◌≡◌}
use Prim.Native.Nat.{◌≤◌, ◌-◌}
use lib.ListN.{length}
use Rattle.columns_marks.specs.Marks.{listed, Continued}
use Rattle.columns_marks.proofs.list_between.Given as goal

abbrev pub invariant-loop-k : goal.invariant-loop-k
invariant-loop-k l = (l.k ≤ l.to) × (l.count ≡ length (listed l.k l.column)) × (length l.list ≡ length l.initial.list) × Continued l.column l.from l.k l.initial.list l.list
