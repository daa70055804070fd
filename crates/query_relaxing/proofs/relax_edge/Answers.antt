-- `query_relaxing::relax_edge` meets its contract: one end of e is a, so the definition makes the same offer to the other end. Assumes nothing.
use mathlib.Core.Path.{sym, ap, ◌∙◌}
use Prim.Native.Nat.{◌+◌}
use native.Mathlib.Omega.{arith}
use lib.ListN.{length, get_or}
use Rattle.engine_walks.specs.Settling.{offer}
use Rattle.query_relaxing.specs.Ready.{state_of, graph_of, weighs}
use Rattle.query_relaxing.proofs.Keys.{other_in, edge_by}
use Rattle.query_relaxing.proofs.relax_edge.Goals as goal

pub bounds-ends_a-at : goal.bounds-ends_a-at
bounds-ends_a-at c = omega (arith, c.requires.e_in_bounds)

pub bounds-ends_b-at : goal.bounds-ends_b-at
bounds-ends_b-at c = omega (arith, c.requires.e_in_bounds)

pub bounds-weights-at : goal.bounds-weights-at
bounds-weights-at c = omega (arith, c.requires.e_in_bounds)

pub overflow_add-w : goal.overflow_add-w
overflow_add-w c = omega (arith, c.requires.e_in_bounds)

pub offer_to-requires : goal.offer_to-requires
offer_to-requires c = let s = c in
    let x = get_or s.args.ends_a.now s.args.e.0 0 in
    let y = get_or s.args.ends_b.now s.args.e.0 0 in
    record { ready = s.requires.ready; u_in_bounds = (rw c.other_end-u.ensures (other_in x y s.args.a.0 (length s.args.status.now) s.requires.e_in_bounds_2.0 s.requires.e_in_bounds_2.1), s.requires.e_in_bounds.3) }

pub shape_of-status : goal.shape_of-status
shape_of-status c = c.status-1.given

pub shape_of-weight : goal.shape_of-weight
shape_of-weight c = c.weight-1.given

pub shape_of-previous : goal.shape_of-previous
shape_of-previous c = c.previous-1.given

pub shape_of-node : goal.shape_of-node
shape_of-node c = c.node-1.given

pub shape_of-leaf : goal.shape_of-leaf
shape_of-leaf c = c.leaf-1.given

pub returns : goal.returns
returns c = let s = c in
    let o = c.offer_to.ensures in record {
      by_index = λ n m.
          let g = graph_of n s.args.ends_a.now s.args.ends_b.now m in
          let w = weighs s.args.weights.now in
          o.previous_after ∙ ap (λ u. offer s.args.a.0 s.args.q.0 u (s.args.w + w s.args.e.0) (state_of s.args.status.now s.args.weight.now s.args.previous.now)) c.other_end-u.ensures
          ∙ sym (edge_by g w s.args.a.0 s.args.q.0 s.args.w s.args.e.0 (state_of s.args.status.now s.args.weight.now s.args.previous.now) s.requires.fact);
      ready_2 = o.ready_2;
    }
