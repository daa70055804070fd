-- `weights_recipe::logarithm::edge_weight` meets its contract. Invariant: what is left to be halved comes to what the definition makes of the odds. Assumes nothing.
use Rattle.std.proofs.Common.{◌≡◌, ◌-◌, ◌≤◌}
use Rattle.weights_recipe.proofs.Recipe.{from}
use Rattle.weights_recipe.proofs.logarithm.edge_weight.Given as goal

abbrev pub invariant-loop-k : goal.invariant-loop-k
invariant-loop-k l = (l.k ≤ 64) × (from l.k l.q ≡ from 0 l.initial.q)

abbrev pub decreases-loop-k : goal.decreases-loop-k
decreases-loop-k l = 64 - l.k
