-- `codes_layers::vertices::rows_of` meets its contract: each case of the kind is that of `rows`. Assumes nothing.
use borrow.Author.Tests.{eq-eqb, ne_eqb, le-leb, lt-leb}
use Rattle.codes_layers.specs.Codes.{rows}
use Rattle.codes_layers.proofs.vertices.rows_of.Goals as goal

pub returns-then-kind-eq1 : goal.returns-then-kind-eq1
unfolding rows
returns-then-kind-eq1 c = simp (eq-eqb _ _ c.if-kind-eq1.true)

pub returns-then-kind-le4 : goal.returns-then-kind-le4
unfolding rows
returns-then-kind-le4 c = simp (ne_eqb _ _ c.if-kind-eq1.false, le-leb _ _ c.if-kind-le4.true)

pub returns : goal.returns
unfolding rows
returns c = simp (ne_eqb _ _ c.if-kind-eq1.false, lt-leb _ _ c.if-kind-le4.false)
