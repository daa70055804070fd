-- `weights_recipe::logarithm::edge_weight` meets its contract. Invariant: what is left to be halved comes to what the definition makes of the odds. Assumes nothing.
use Rattle.std.proofs.Common.{◌≡◌, ◌-◌, sym, refl, ◌∙◌, ⊎_elim, arith}
use lib.Ieee.{lt}
use Rattle.weights_recipe.specs.Constants.{two}
use Rattle.weights_recipe.proofs.Recipe.{from, ended, spent, stops, turn, infinite, at_zero, past_zero, last_line}
use Rattle.weights_recipe.proofs.logarithm.edge_weight.Goals as goal
use Rattle.weights_recipe.proofs.logarithm.edge_weight.Goals.{else-loop-k-test, then-loop-k-test+then-q}

pub returns-then-p : goal.returns-then-p
returns-then-p c = infinite ∙ sym (at_zero c.args.p c.if-p.true)

pub loop-k-init : goal.loop-k-init
loop-k-init c = (omega arith, refl)

pub loop-k-preserved : goal.loop-k-preserved
loop-k-preserved c = (omega arith, turn c.loop-k.k c.loop-k.q c.loop-k-test.true c.if-q.false ∙ c.loop-k.invariant.1)

pub returns : goal.returns
returns c =
    let at-loop = c in
    let k = at-loop.loop-k.k in
    let q = at-loop.loop-k.q in
    let is : ended k q ≡ from k q =
    elim c.loop-k-test.branch [
      | else-loop-k-test w ↦ sym (spent (64 - k) (lt q two) q k (omega arith))
      | then-loop-k-test+then-q w ↦ sym (stops (64 - k) q k w.if-q.true)
    ] in
    last_line k q c.sum_series-h.result c.sum_series-h.ensures ∙ past_zero at-loop.args.p (ended k q) at-loop.if-p.false (is ∙ at-loop.loop-k.invariant.1)
