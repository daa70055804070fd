-- `reorder_orders::order_questions` meets its contract: a number in range is below the order's length, at most 4,096. Assumes nothing.
use native.Mathlib.Omega.{arith}
use lib.ListN.{length}
use Rattle.columns.proofs.Tests.{below_at}
use Rattle.reorder_orders.proofs.order_questions.Goals as goal

pub none_twice-requires : goal.none_twice-requires
none_twice-requires c = let o = c.args.order.now in λ i h. omega (arith, c.requires.order_len_bound, below_at (length o) o (c.requires.order_value c.in_ok-require.ensures.ok) i h)
