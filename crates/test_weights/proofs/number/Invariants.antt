-- `i` digits are read.
use Rattle.std.proofs.Common.{◌-◌, ◌≤◌}
use Rattle.test_weights.proofs.number.Given as goal

abbrev pub invariant-loop-i : goal.invariant-loop-i
invariant-loop-i l = l.i ≤ l.count
