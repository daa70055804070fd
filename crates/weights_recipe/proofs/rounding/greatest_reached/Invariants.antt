-- `weights_recipe::rounding::greatest_reached` meets its contract. The two tests of a near number show the invariant: lo is 0 or is reached, and no n from hi to max is. The measure is hi - lo. Assumes nothing.
use Rattle.std.proofs.Common.{◌≡◌, ℕ, ◌+◌, ◌-◌, ◌<◌, ◌≤◌, true, false, ◌⊎◌}
use Rattle.weights_recipe.specs.Rounding.{reaches}
use Rattle.weights_recipe.proofs.rounding.greatest_reached.Given as goal

abbrev pub invariant-loop-hi : goal.invariant-loop-hi
invariant-loop-hi l =
    (l.lo < l.hi) × (l.hi ≤ l.max + 1) × ((l.lo ≡ 0) ⊎ (reaches l.v l.lo ≡ true)) × ((n : ℕ) → l.hi ≤ n → n ≤ l.max → reaches l.v n ≡ false)

abbrev pub decreases-loop-hi : goal.decreases-loop-hi
decreases-loop-hi l = l.hi - l.lo
