-- `weights_recipe::rounding::reached_at` meets its contract: by its test. Assumes nothing.
use Rattle.std.proofs.Common.{sym, refl, ◌∙◌, inl, inr, arith}
use Rattle.weights_recipe.proofs.rounding.reached_at.Goals as goal

pub returns-then-is_reached : goal.returns-then-is_reached
returns-then-is_reached c = (omega arith, inr (sym c.is_reached.ensures ∙ c.if-is_reached.true))

pub returns-else-is_reached : goal.returns-else-is_reached
returns-else-is_reached c = (omega arith, inl refl)
