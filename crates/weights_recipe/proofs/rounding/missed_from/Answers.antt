-- `weights_recipe::rounding::missed_from` meets its contract: what v does not reach, it does not reach above. Assumes nothing.
use Rattle.std.proofs.Common.{◌+◌, sym, ◌∙◌, arith}
use Rattle.weights_recipe.proofs.Search.{misses}
use Rattle.weights_recipe.proofs.rounding.missed_from.Goals as goal

pub returns-then-is_reached : goal.returns-then-is_reached
returns-then-is_reached c = (omega arith, omega arith, λ k a b. absurd (omega arith))

pub returns-else-is_reached : goal.returns-else-is_reached
returns-else-is_reached c =
    let s = c.args in
    let missed = sym c.is_reached.ensures ∙ c.if-is_reached.false in
    (omega arith, omega arith, λ k a b. misses s.v (s.n + 1) k s.max (omega arith) a b (omega arith) missed)
