-- `query_relaxing::other_end` meets its contract: each arm returns what `cond` picks where x is, or is not, a. Assumes nothing.
use borrow.Author.Tests.{eq-eqb, ne_eqb}
use Rattle.query_relaxing.proofs.other_end.Goals as goal

pub returns-then-x-a : goal.returns-then-x-a
returns-then-x-a c = simp (eq-eqb _ _ c.if-x-a.true)

pub returns-else-x-a : goal.returns-else-x-a
returns-else-x-a c = simp (ne_eqb _ _ c.if-x-a.false)
