-- `codes_planar::planar_boundary` meets its contract: each case of j, d or d - 1 or another, is that of `planar_boundary`. Assumes nothing.
use borrow.Author.Tests.{eq-eqb, ne_eqb}
use Rattle.codes_planar.specs.Planar.{planar_boundary}
use Rattle.codes_planar.proofs.planar_boundary.Goals as goal

pub returns-then-j-d : goal.returns-then-j-d
unfolding planar_boundary
returns-then-j-d c = simp (eq-eqb _ _ c.if-j-d.true)

pub returns-then-j-d-2 : goal.returns-then-j-d-2
unfolding planar_boundary
returns-then-j-d-2 c = simp (ne_eqb _ _ c.if-j-d.false, eq-eqb _ _ c.if-j-d-2.true)

pub returns : goal.returns
unfolding planar_boundary
returns c = simp (ne_eqb _ _ c.if-j-d.false, ne_eqb _ _ c.if-j-d-2.false)
