-- `reorder_orders::place_numbers` meets its contract: after i turns the first i numbers stand at the vertices that the order names. Assumes nothing.
use Rattle.reorder_orders.specs.Steps.{IsOrder}
use Rattle.reorder_orders.proofs.Gathering.{Placed}
use Rattle.reorder_orders.proofs.place_numbers.Given as goal

abbrev pub invariant-loop-i : goal.invariant-loop-i
invariant-loop-i l = (o : IsOrder l.order) → Placed l.order o l.i l.initial.new_numbers l.new_numbers
