-- `columns_marks::all_zero` meets its contract: while each byte is 0, no number is added. Assumes nothing.
use mathlib.Core.Path.{◌≡◌}
use mathlib.Core.Bool.{true}
use Prim.Native.Nat.{◌≤◌, ◌-◌, ◌+◌}
use Rattle.columns_marks.specs.Marks.{listed}
use Rattle.columns_marks.proofs.all_zero.Given as goal

abbrev pub invariant-loop-i : goal.invariant-loop-i
invariant-loop-i l = (l.i ≤ 8) × (l.zero ≡ true → listed (l.at + l.i) l.column ≡ listed l.at l.column)
