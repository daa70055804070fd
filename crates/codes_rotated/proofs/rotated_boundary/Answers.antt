-- `codes_rotated::rotated_boundary` meets its contract: each case of the row and the place is that of `rotated_boundary`. Assumes nothing.
use borrow.Author.Tests.{eq-eqb, ne_eqb}
use Rattle.codes_rotated.specs.Rotated.{rotated_boundary}
use Rattle.codes_rotated.proofs.rotated_boundary.Goals as goal

pub returns-then-i-w : goal.returns-then-i-w
unfolding rotated_boundary
returns-then-i-w c = simp (eq-eqb _ _ c.if-row-eq0.true, eq-eqb _ _ c.if-i-w.true)

pub returns-then-row-eq0 : goal.returns-then-row-eq0
unfolding rotated_boundary
returns-then-row-eq0 c = simp (eq-eqb _ _ c.if-row-eq0.true, ne_eqb _ _ c.if-i-w.false)

pub returns-then-i-eq0 : goal.returns-then-i-eq0
unfolding rotated_boundary
returns-then-i-eq0 c = simp (ne_eqb _ _ c.if-row-eq0.false, eq-eqb _ _ c.if-i-eq0.true)

pub returns : goal.returns
unfolding rotated_boundary
returns c = simp (ne_eqb _ _ c.if-row-eq0.false, ne_eqb _ _ c.if-i-eq0.false)
