-- `weights_recipe::rounding::half_weight` meets its contract: `greatest_reached` promises a number of at most max, and 0 becomes 1. Assumes nothing.
use Rattle.std.proofs.Common.{◌≡◌, ℕ, zero, suc, ◌≤◌, refl, ap, ◌∙◌, arith}
use lib.Ieee.{Float}
use Rattle.weights_recipe.specs.Rounding.{greatest, scaled, half_weight, at_least_one}
use Rattle.weights_recipe.proofs.Search.{fits_float, greatest_within}
use Rattle.weights_recipe.proofs.rounding.half_weight.Goals as goal

one : (n : ℕ) → n ≡ 0 → 1 ≡ at_least_one n
one zero e = refl
one (suc n) e = absurd (omega arith)

self : (n : ℕ) → (n ≡ 0 → ⊥) → n ≡ at_least_one n
self zero e = absurd (e refl)
self (suc n) e = refl

no_more : (v : Float) (max n : ℕ) → n ≡ greatest v max → n ≤ max
no_more v max n e = omega (arith, greatest_within v max)

pub int_to_float-max : goal.int_to_float-max
int_to_float-max c = fits_float _ (omega arith)

pub overflow_cast-result : goal.overflow_cast-result
overflow_cast-result c = omega (arith, no_more _ c.args.max_half_weight _ c.greatest_reached-n.ensures)

pub returns-then-n-eq0 : goal.returns-then-n-eq0
unfolding half_weight scaled
returns-then-n-eq0 c = one c.greatest_reached-n.result c.if-n-eq0.true ∙ ap at_least_one c.greatest_reached-n.ensures

pub returns-else-n-eq0 : goal.returns-else-n-eq0
unfolding half_weight scaled
returns-else-n-eq0 c = self c.greatest_reached-n.result c.if-n-eq0.false ∙ ap at_least_one c.greatest_reached-n.ensures
