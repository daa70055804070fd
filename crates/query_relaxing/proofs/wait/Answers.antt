-- `query_relaxing::wait` meets its contract: the stores are the definition's change, and `put` keeps the tree with u's key, which fits since k < sum_limit. Assumes nothing.
use mathlib.Core.Path.{refl}
use native.Mathlib.Omega.{arith}
use Rattle.query_relaxing.proofs.Keys.{ready-waits}
use Rattle.query_relaxing.proofs.wait.Goals as goal

pub bounds-status-at : goal.bounds-status-at
bounds-status-at c = let s = c in omega (arith, s.requires.ready.status_fits)

pub offset_bounds-weight-at : goal.offset_bounds-weight-at
offset_bounds-weight-at c = let s = c in omega (arith, s.requires.ready.few)

pub bounds-weight-at : goal.bounds-weight-at
bounds-weight-at c = let s = c in omega (arith, s.requires.ready.weight_fits)

pub offset_bounds-previous-at : goal.offset_bounds-previous-at
offset_bounds-previous-at c = let s = c in omega (arith, s.requires.ready.few)

pub bounds-previous-at : goal.bounds-previous-at
bounds-previous-at c = let s = c in omega (arith, s.requires.ready.previous_fits)

pub overflow_mul-k : goal.overflow_mul-k
overflow_mul-k c = omega (arith, c.requires.u_in_bounds)

pub overflow_add-k : goal.overflow_add-k
overflow_add-k c = omega (arith, c.requires.u_in_bounds, c.requires.ready.few)

pub put-requires : goal.put-requires
put-requires c = let s = c in record { fact_1 = (s.requires.ready.node_fits, omega (arith, s.requires.ready.leaf_fits)); fact_2 = s.requires.u_in_bounds.0; fact_3 = s.requires.ready.few; fact_4 = s.requires.ready.tree }

pub shape_of-node : goal.shape_of-node
shape_of-node c = c.node-1.given

pub shape_of-leaf : goal.shape_of-leaf
shape_of-leaf c = c.leaf-1.given

pub returns : goal.returns
returns c = let s = c in
    let p = c.put.ensures in
    record { previous_after = refl; ready_2 = ready-waits s.requires.ready _ _ p.node_len_unchanged p.tree s.args.u.0 s.requires.u_in_bounds.0 s.args.k s.args.a.0 s.requires.u_in_bounds.1 p.leaf_after }
