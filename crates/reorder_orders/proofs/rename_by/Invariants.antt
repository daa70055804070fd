-- `reorder_orders::rename_by` meets its contract: before an end's turn the ends before it are renamed. Assumes nothing.
use mathlib.Core.Path.{◌≡◌}
use mathlib.Core.List.{◌++◌, map}
use lib.ListN.{get_or, take, drop}
use Rattle.reorder_orders.proofs.rename_by.Given as goal

abbrev pub invariant-loop-end : goal.invariant-loop-end
invariant-loop-end l = l.end-items ≡ map (λ u. get_or l.new_numbers u 0) (take l.end-index l.initial.end-items) ++ drop l.end-index l.initial.end-items
