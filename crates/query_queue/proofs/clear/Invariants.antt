-- `query_queue::clear` meets its contract. Invariant: the first i nodes and the first i leaves hold NONE, and the lengths are kept. Assumes nothing.
use Prim.Native.Nat.{◌≤◌, ◌-◌}
use mathlib.Core.Path.{◌≡◌}
use lib.ListN.{length}
use Rattle.query_queue.specs.Tree.{Same}
use Rattle.query_queue.proofs.clear.Given as goal

abbrev pub invariant-loop-i : goal.invariant-loop-i
invariant-loop-i l = (l.i ≤ l.n) × ((length l.node ≡ length l.initial.node) × ((length l.leaf ≡ length l.initial.leaf) × (Same l.node l.i 18446744073709551615 × Same l.leaf l.i 18446744073709551615)))
