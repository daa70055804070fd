-- `sanity_verdicts::lists::lists_ascend` meets its contract. Invariant: the lists of the first v vertices ascend; start is where the list of v starts. Assumes nothing.
use Prim.Native.Nat.{ℕ, ◌<◌}
use mathlib.Core.Path.{◌≡◌}
use lib.ListN.{get_or}
use Rattle.columns_neighbors.specs.Lists.{sum_to}
use Rattle.sanity_verdicts.specs.ListSteps.{Ascends}
use Rattle.sanity_verdicts.proofs.lists.lists_ascend.Given as goal

abbrev pub invariant-loop-v : goal.invariant-loop-v
invariant-loop-v l = (l.start ≡ sum_to l.v l.lengths) × ((u : ℕ) → u < l.v → Ascends l.numbers (sum_to u l.lengths) (get_or l.lengths u 0))
