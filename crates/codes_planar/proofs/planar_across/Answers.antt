-- `codes_planar::planar_across` meets its contract: each arm returns what `planar_across` picks where j = d is as the arm's test found it. Assumes nothing.
use borrow.Author.Tests.{eq-eqb, ne_eqb}
use Rattle.codes_planar.specs.Planar.{planar_across}
use Rattle.codes_planar.proofs.planar_across.Goals as goal

pub returns-then-j-d : goal.returns-then-j-d
unfolding planar_across
returns-then-j-d c = simp (eq-eqb _ _ c.if-j-d.true)

pub returns : goal.returns
unfolding planar_across
returns c = simp (ne_eqb _ _ c.if-j-d.false)
