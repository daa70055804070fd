-- `query_queue::raise` meets its contract. Invariant: only place i may not hold the lesser of its children. Assumes nothing.
use Prim.Native.Nat.{◌<◌}
use mathlib.Core.Path.{◌≡◌}
use lib.ListN.{length}
use Rattle.query_queue.specs.Tree.{TreeBut}
use Rattle.query_queue.proofs.raise.Given as goal

abbrev pub invariant-loop-i : goal.invariant-loop-i
invariant-loop-i l = (l.i < l.n) × ((length l.node ≡ length l.initial.node) × TreeBut l.node l.leaf l.n l.i)

abbrev pub decreases-loop-i : goal.decreases-loop-i
decreases-loop-i l = l.i
