-- `sanity_verdicts::lists::stands_before` meets its contract. Invariant: whether x is one of the first j numbers. Assumes nothing.
use Rattle.sanity_verdicts.specs.ListSteps.{Seen}
use Rattle.sanity_verdicts.proofs.lists.stands_before.Given as goal

abbrev pub invariant-loop-j : goal.invariant-loop-j
invariant-loop-j l = Seen l.numbers l.start l.j l.x.0 l.seen
