-- `i` numbers are printed.
use Rattle.std.proofs.Common.{◌-◌, ◌≤◌}
use Rattle.test_numbers.proofs.show_bytes.Given as goal

abbrev pub invariant-loop-i : goal.invariant-loop-i
invariant-loop-i g l = l.i ≤ l.m
