-- `codes_planar::downward` meets its contract: each arm returns what `cond` picks by its test, and neither d - 1 nor 0 is above d. Assumes nothing.
use borrow.Author.Tests.{lt-ltb, le-ltb}
use borrow.Author.Rules.{rules}
use Rattle.codes_planar.proofs.downward.Goals as goal

pub returns-then-row-d : goal.returns-then-row-d
returns-then-row-d c = (simp (lt-ltb _ _ c.if-row-d.true), search rules)

pub returns-else-row-d : goal.returns-else-row-d
returns-else-row-d c = (simp (le-ltb _ _ c.if-row-d.false), search rules)
