-- `i` bytes are counted in.
use Rattle.std.proofs.Common.{◌-◌, ◌≤◌}
use Rattle.test_numbers.proofs.checksum.Given as goal

abbrev pub invariant-loop-i : goal.invariant-loop-i
invariant-loop-i l = l.i ≤ l.m
