-- `sanity_verdicts::lists::twice_in` meets its contract. Invariant: the first i numbers are stamped, and none of them stands there twice. Assumes nothing.
use mathlib.Core.Path.{◌≡◌}
use lib.ListN.{length}
use Rattle.sanity_verdicts.specs.ListSteps.{Stamped}
use Rattle.sanity_verdicts.proofs.Stamping.{part, NoneTwice}
use Rattle.sanity_verdicts.proofs.lists.twice_in.Given as goal

abbrev pub invariant-loop-i : goal.invariant-loop-i
invariant-loop-i l =
    Stamped l.numbers l.start l.i l.stamp l.mark × NoneTwice (part l.numbers l.start l.len) l.v.0 l.i × (length l.mark ≡ length l.initial.mark)
