-- `codes_layers::vertices::width_of` meets its contract: each case of the kind is that of `width`, and with d at most 4,095 none is above 4,096. Assumes nothing.
use borrow.Author.Tests.{le-leb, lt-leb}
use Rattle.codes_layers.specs.Codes.{width}
use borrow.Author.Rules.{rules}
use Rattle.codes_layers.proofs.vertices.width_of.Goals as goal

pub returns-then-kind-le4 : goal.returns-then-kind-le4
unfolding width
returns-then-kind-le4 c = (simp (le-leb _ _ c.if-kind-le4.true), search rules)

pub returns : goal.returns
unfolding width
returns c = (simp (lt-leb _ _ c.if-kind-le4.false), search rules)
