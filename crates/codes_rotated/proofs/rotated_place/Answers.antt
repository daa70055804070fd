-- `codes_rotated::rotated_place` meets its contract: each case of i and `even` is that of `rotated_place`, and with i at most 4,096 none is above 4,096. Assumes nothing.
use borrow.Author.Tests.{eq-eqb, ne_eqb}
use Rattle.codes_rotated.specs.Rotated.{rotated_place}
use borrow.Author.Rules.{rules}
use Rattle.codes_rotated.proofs.rotated_place.Goals as goal

pub returns-then-i-eq0 : goal.returns-then-i-eq0
unfolding rotated_place
returns-then-i-eq0 c = (simp (eq-eqb _ _ c.if-i-eq0.true), search rules)

pub returns-then-even : goal.returns-then-even
unfolding rotated_place
returns-then-even c = (simp (ne_eqb _ _ c.if-i-eq0.false, c.if-even.true), search rules)

pub returns : goal.returns
unfolding rotated_place
returns c = (simp (ne_eqb _ _ c.if-i-eq0.false, c.if-even.false), search rules)
