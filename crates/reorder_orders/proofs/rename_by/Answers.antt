-- `reorder_orders::rename_by` meets its contract: each turn renames one end more. Assumes nothing.
use native.Mathlib.Omega.{arith}
use lib.ListN.{get_or}
use Rattle.reorder_orders.proofs.Gathering.{rename_more}
use Rattle.reorder_orders.proofs.rename_by.Goals as goal

pub loop-end-preserved : goal.loop-end-preserved
loop-end-preserved c = rename_more (λ u. get_or c.args.new_numbers.now u 0) _ c.loop-end.end-index (omega arith) c.loop-end.invariant
