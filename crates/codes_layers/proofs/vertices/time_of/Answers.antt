-- `codes_layers::vertices::time_of` meets its contract: each arm returns what `cond` picks where kind = 6 is as the arm's test found it. Assumes nothing.
use borrow.Author.Tests.{eq-eqb, ne_eqb}
use Rattle.codes_layers.proofs.vertices.time_of.Goals as goal

pub returns-then-kind-eq6 : goal.returns-then-kind-eq6
returns-then-kind-eq6 c = simp (eq-eqb _ _ c.if-kind-eq6.true) c.rotated_time.ensures

pub returns : goal.returns
returns c = simp (ne_eqb _ _ c.if-kind-eq6.false)
