-- `reorder_orders::place_numbers` meets its contract: after i turns the first i numbers stand at the vertices that the order names. Assumes nothing.
use native.Mathlib.Omega.{arith}
use Rattle.reorder_orders.proofs.Permutation.{order_below}
use Rattle.reorder_orders.proofs.Gathering.{placed-none, placed-more, placed_end}
use Rattle.reorder_orders.proofs.place_numbers.Goals as goal

pub loop-i-init : goal.loop-i-init
loop-i-init c = λ o. placed-none _ o _

pub bounds-new_numbers-at : goal.bounds-new_numbers-at
bounds-new_numbers-at c = omega (arith, order_below c.args.order.now c.requires.0 c.loop-i.i (omega arith))

pub loop-i-preserved : goal.loop-i-preserved
loop-i-preserved c = let l = c.loop-i in λ o. placed-more _ o l.i _ l.new_numbers (omega arith) c.requires.1 (l.invariant o)

pub returns : goal.returns
returns c = let l = c.loop-i in placed_end _ c.requires.0 l.i _ l.new_numbers (omega arith) c.requires.1 (l.invariant c.requires.0)
