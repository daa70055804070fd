-- `sanity_pairs::duplicates_one_by_one` meets its contract. Invariant: no finding among the first i edges. Assumes nothing.
use mathlib.Core.Path.{◌≡◌}
use Rattle.std.specs.Prelude.{None}
use Rattle.sanity_verdicts.specs.Sanity.{first_of, duplicate}
use Rattle.sanity_pairs.proofs.duplicates_one_by_one.Given as goal

abbrev pub invariant-loop-i : goal.invariant-loop-i
invariant-loop-i l = first_of l.i (duplicate l.a l.b) ≡ None
