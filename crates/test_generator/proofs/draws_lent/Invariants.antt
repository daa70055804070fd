-- `i` lines are printed.
use Rattle.std.proofs.Common.{◌-◌, ◌≤◌}
use Rattle.test_generator.proofs.draws_lent.Given as goal

abbrev pub invariant-loop-i : goal.invariant-loop-i
invariant-loop-i g l = l.i ≤ l.n
