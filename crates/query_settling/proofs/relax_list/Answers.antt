-- `query_settling::relax_list` meets its contract. Invariant: the state after the places before i. Assumes nothing.
use mathlib.Core.Path.{◌≡◌, refl, sym, ap, ◌∙◌}
use Prim.Native.Nat.{◌-◌}
use native.Mathlib.Omega.{arith}
use lib.ListN.{get_or, take, drop}
use Rattle.query_relaxing.specs.Ready.{state_of, graph_of, weighs}
use Rattle.engine_walks.specs.Settling.{relax_edge, relax_along}
use Rattle.query_relaxing.proofs.Keys.{ready_as}
use Rattle.query_settling.proofs.Choice.{along_more, along_none}
use Rattle.query_settling.proofs.relax_list.Goals as goal

pub loop-i-init : goal.loop-i-init
loop-i-init c = let s = c in (refl, s.requires.ready, λ n m. sym (along_none (graph_of n s.args.ends_a.now s.args.ends_b.now m) (weighs s.args.weights.now) s.args.a.0 s.args.q.0 s.args.w s.args.neighbor_numbers.now s.args.from _), refl)

pub offset_bounds-neighbor_numbers-i : goal.offset_bounds-neighbor_numbers-i
offset_bounds-neighbor_numbers-i c = omega (arith, c.requires.along.inside)

pub bounds-neighbor_numbers-i : goal.bounds-neighbor_numbers-i
bounds-neighbor_numbers-i c = omega (arith, c.requires.along.inside)

pub relax_edge-requires : goal.relax_edge-requires
relax_edge-requires c = let s = c in
    let at = c.loop-i in
    let p = s.requires.along in
    let e = p.edge at.i (omega arith) c.loop-i-test.true in
    let x = get_or s.args.neighbor_numbers.now at.i 0 in
    let len = at.invariant.0 in
    record { ready = ready_as (sym len) at.invariant.1; e_in_bounds = (e, omega (arith, p.same_b), omega (arith, p.same_w), p.weights_within x e); e_in_bounds_2 = (omega (arith, p.in_a x e), omega (arith, p.in_b x e)); fact = p.at_v at.i (omega arith) c.loop-i-test.true }

pub loop-i-preserved : goal.loop-i-preserved
loop-i-preserved c =
    let s = c in
    let at = c.loop-i in
    let o = c.relax_edge.ensures in (
      c.relax_edge.auto.status ∙ at.invariant.0,
      ready_as at.invariant.0 o.ready_2,
      (λ n m. o.by_index n m ∙ ap (relax_edge (graph_of n s.args.ends_a.now s.args.ends_b.now m) (weighs s.args.weights.now) s.args.a.0 s.args.q.0 s.args.w (get_or s.args.neighbor_numbers.now at.i 0)) (at.invariant.2 n m)
          ∙ sym (along_more (graph_of n s.args.ends_a.now s.args.ends_b.now m) (weighs s.args.weights.now) s.args.a.0 s.args.q.0 s.args.w s.args.neighbor_numbers.now s.args.from at.i _ (omega arith) (omega (arith, s.requires.along.inside, c.loop-i-test.true)))),
      c.relax_edge.auto.node ∙ at.invariant.3,
    )

pub shape_of-status : goal.shape_of-status
shape_of-status c = c.loop-i.invariant.0

pub shape_of-weight : goal.shape_of-weight
shape_of-weight c = let at = c.loop-i in let s = c in at.invariant.1.weight_fits ∙ sym s.requires.ready.weight_fits

pub shape_of-previous : goal.shape_of-previous
shape_of-previous c = let at = c.loop-i in let s = c in at.invariant.1.previous_fits ∙ sym s.requires.ready.previous_fits

pub shape_of-node : goal.shape_of-node
shape_of-node c = c.loop-i.invariant.3

pub shape_of-leaf : goal.shape_of-leaf
shape_of-leaf c = let at = c.loop-i in let s = c in at.invariant.1.leaf_fits ∙ sym s.requires.ready.leaf_fits

pub returns : goal.returns
returns c = let at = c.loop-i in
    let s = c in
    let e : at.i ≡ s.args.to = omega (arith, s.requires.along.ordered) in
    record { by_index = (λ n m. at.invariant.2 n m ∙ ap (λ k. relax_along (graph_of n s.args.ends_a.now s.args.ends_b.now m) (weighs s.args.weights.now) s.args.a.0 s.args.q.0 s.args.w (take (k - s.args.from) (drop s.args.from s.args.neighbor_numbers.now)) (state_of s.args.status.now s.args.weight.now s.args.previous.now)) e); ready_2 = at.invariant.1 }
