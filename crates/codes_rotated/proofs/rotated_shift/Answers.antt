-- `codes_rotated::rotated_shift` meets its contract: each arm returns what `cond` picks by its test, and neither 1 nor 0 is above 1. Assumes nothing.
use borrow.Author.Rules.{rules}
use borrow.Author.Tests.{eq-eqb, ne_eqb}
use Rattle.codes_rotated.proofs.rotated_shift.Goals as goal

pub returns-then-row-eq0 : goal.returns-then-row-eq0
returns-then-row-eq0 c = (search rules, simp (eq-eqb _ _ c.if-row-eq0.true))

pub returns : goal.returns
returns c = (search rules, simp (ne_eqb _ _ c.if-row-eq0.false))
