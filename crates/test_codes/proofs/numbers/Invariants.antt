-- `i` numbers are counted in.
use Rattle.std.proofs.Common.{◌-◌, ◌≤◌}
use Rattle.test_codes.proofs.numbers.Given as goal

abbrev pub invariant-loop-i : goal.invariant-loop-i
invariant-loop-i g l = l.i ≤ l.m
