-- `weights_calls::largest_by_table` meets its contract. Invariant: the largest weight of the first i edges, and the table is right. Assumes nothing.
use mathlib.Core.Path.{◌≡◌}
use lib.ListN.{take}
use Rattle.weights_recipe.specs.Logarithm.{edge_weight}
use Rattle.weights_calls.specs.Calls.{largest_weight}
use Rattle.weights_calls.specs.Steps.{Known}
use Rattle.weights_calls.proofs.largest_by_table.Given as goal

abbrev pub invariant-loop-i : goal.invariant-loop-i
invariant-loop-i l = (l.largest ≡ largest_weight (take l.i l.p)) × Known edge_weight l.known_p l.known_w
