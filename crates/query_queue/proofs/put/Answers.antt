-- `query_queue::put` meets its contract: after the store only the parent of the leaf may not hold the lesser of its children, as `raise` requires. Assumes nothing.
use native.Mathlib.Omega.{arith}
use lib.ListN.{length-set}
use Rattle.query_queue.proofs.Places.{leaf_put}
use Rattle.query_queue.proofs.put.Goals as goal

pub raise-requires : goal.raise-requires
raise-requires c = let s = c in
    record { fact_1 = (omega arith, simp length-set (omega arith)); fact_2 = omega arith; fact_3 = omega arith; fact_4 = leaf_put s.args.node.now s.args.leaf.now s.args.n s.args.v s.args.key s.requires.fact_4 }

pub shape_of-node : goal.shape_of-node
shape_of-node c = c.node-1.given
