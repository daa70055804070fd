-- `reorder_calls::lists::list_starts` meets its contract: after i turns the first i starts are stored. Assumes nothing.
use mathlib.Core.Path.{◌≡◌}
use Prim.Native.Nat.{ℕ, ◌<◌}
use lib.ListN.{get_or}
use Rattle.columns_neighbors.specs.Lists.{sum_to}
use Rattle.reorder_calls.proofs.lists.list_starts.Given as goal

abbrev pub invariant-loop-i : goal.invariant-loop-i
invariant-loop-i l = (l.sum ≡ sum_to l.i l.lengths) × ((u : ℕ) → u < l.i → get_or l.starts u 0 ≡ sum_to u l.lengths)
