-- `sanity_verdicts::lists::list_places` meets its contract: `sum` has the lengths passed. Assumes nothing.
use mathlib.Core.Path.{◌≡◌}
use Rattle.columns_neighbors.specs.Lists.{sum_to}
use Rattle.sanity_verdicts.proofs.lists.list_places.Given as goal

abbrev pub invariant-loop-i : goal.invariant-loop-i
invariant-loop-i l = l.sum ≡ sum_to l.i l.lengths
