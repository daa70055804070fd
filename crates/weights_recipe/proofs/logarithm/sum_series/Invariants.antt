-- `weights_recipe::logarithm::sum_series` meets its contract. Invariant: what is left of the recursion from here is the whole recursion. Assumes nothing.
use Rattle.std.proofs.Common.{◌≡◌}
use Rattle.weights_recipe.specs.Logarithm.{series}
use Rattle.weights_recipe.proofs.logarithm.sum_series.Given as goal

abbrev pub invariant-loop-n : goal.invariant-loop-n
invariant-loop-n l = series l.n l.z l.h ≡ series 17 l.z l.initial.h
