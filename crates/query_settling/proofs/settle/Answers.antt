-- `query_settling::settle` meets its contract. Invariant: the state after t turns. Assumes nothing.
use mathlib.Core.Path.{◌≡◌, refl, sym, ap, ◌∙◌}
use native.Mathlib.Omega.{arith}
use mathlib.Core.Bool.{◌&&◌}
use lib.ListN.{length, get_or}
use lib.Dec.{eqb, ltb}
use Rattle.engine_walks.specs.Settling as S
use Rattle.engine_walks.specs.Settling.{take_chosen, to_take}
use Rattle.query_relaxing.specs.Ready.{state_of, graph_of, weighs, sources, end_of}
use Rattle.query_relaxing.proofs.Keys.{ready_as, listed_as}
use Rattle.query_settling.proofs.Settled.{begins, offers-fit, ends-stopped, ends-none, goes_on}
use Rattle.query_settling.proofs.settle.Goals as goal

pub loop-t-init : goal.loop-t-init
loop-t-init c = let s = c in (refl, s.requires.ready, (λ m. begins (length s.args.status.now) s.args.ends_a.now s.args.ends_b.now s.args.weights.now s.args.status.now s.args.weight.now s.args.previous.now s.args.stop.0 refl s.requires.begun m), refl, refl)

pub shape_of-status-then-is_stopped : goal.shape_of-status-then-is_stopped
shape_of-status-then-is_stopped c = c.loop-t.invariant.0

pub shape_of-weight-then-is_stopped : goal.shape_of-weight-then-is_stopped
shape_of-weight-then-is_stopped c = c.loop-t.invariant.1.weight_fits ∙ sym c.requires.ready.weight_fits

pub shape_of-previous-then-is_stopped : goal.shape_of-previous-then-is_stopped
shape_of-previous-then-is_stopped c = c.loop-t.invariant.1.previous_fits ∙ sym c.requires.ready.previous_fits

pub shape_of-node-then-is_stopped : goal.shape_of-node-then-is_stopped
shape_of-node-then-is_stopped c = c.loop-t.invariant.3

pub shape_of-leaf-then-is_stopped : goal.shape_of-leaf-then-is_stopped
shape_of-leaf-then-is_stopped c = c.loop-t.invariant.1.leaf_fits ∙ sym c.requires.ready.leaf_fits

pub returns-then-is_stopped : goal.returns-then-is_stopped
returns-then-is_stopped c = let s = c in
    let at = c.loop-t in
    let e = sym (ap (λ k. ltb s.args.stop.0 k && eqb (get_or at.status s.args.stop.0 0) 2) at.invariant.0) ∙ sym c.is_stopped.ensures ∙ c.if-is_stopped.true in
    record { by_index = (λ m. ends-stopped (length s.args.status.now) s.args.ends_a.now s.args.ends_b.now s.args.weights.now s.args.status.now s.args.weight.now s.args.previous.now s.args.stop.0 refl s.requires.begun at._t _ at.invariant.2 m e (omega (arith, at.invariant.4))); ready_2 = at.invariant.1 }

pub turn-requires : goal.turn-requires
turn-requires c = let s = c in
    let at = c.loop-t in
    let len = sym at.invariant.0 in
    record { ready = ready_as len at.invariant.1; listed = listed_as len s.requires.listed; status_nonzero = (omega (arith, at.invariant.0, at.invariant.4), offers-fit (length s.args.status.now) s.args.ends_a.now s.args.ends_b.now s.args.weights.now s.args.status.now s.args.weight.now s.args.previous.now s.args.stop.0 refl s.requires.begun at._t _ at.invariant.2 s.requires.listed s.requires.ready.few (omega (arith, at.invariant.4))) }

pub shape_of-status-then-not-turn : goal.shape_of-status-then-not-turn
shape_of-status-then-not-turn c = c.turn.auto.status ∙ c.loop-t.invariant.0

pub shape_of-weight-then-not-turn : goal.shape_of-weight-then-not-turn
shape_of-weight-then-not-turn c = c.turn.auto.weight ∙ c.loop-t.invariant.1.weight_fits ∙ sym c.requires.ready.weight_fits

pub shape_of-previous-then-not-turn : goal.shape_of-previous-then-not-turn
shape_of-previous-then-not-turn c = c.turn.auto.previous ∙ c.loop-t.invariant.1.previous_fits ∙ sym c.requires.ready.previous_fits

pub shape_of-node-then-not-turn : goal.shape_of-node-then-not-turn
shape_of-node-then-not-turn c = c.turn.auto.node ∙ c.loop-t.invariant.3

pub shape_of-leaf-then-not-turn : goal.shape_of-leaf-then-not-turn
shape_of-leaf-then-not-turn c = c.turn.auto.leaf ∙ c.loop-t.invariant.1.leaf_fits ∙ sym c.requires.ready.leaf_fits

pub returns-then-not-turn : goal.returns-then-not-turn
returns-then-not-turn c = let s = c in
    let at = c.loop-t in
    let o = c.turn.ensures in
    let none-waits = ap (λ k. to_take k (state_of at.status at.weight at.previous)) (sym at.invariant.0) ∙ o.previous_value c.if-not-turn.true in record {
      by_index = (λ m. o.by_index m ∙ ap (take_chosen (graph_of (length at.status) s.args.ends_a.now s.args.ends_b.now m) (weighs s.args.weights.now) (state_of at.status at.weight at.previous)) (o.previous_value c.if-not-turn.true)
          ∙ ends-none (length s.args.status.now) s.args.ends_a.now s.args.ends_b.now s.args.weights.now s.args.status.now s.args.weight.now s.args.previous.now s.args.stop.0 refl s.requires.begun at._t _ at.invariant.2 m none-waits (omega (arith, at.invariant.4)));
      ready_2 = ready_as at.invariant.0 o.ready_2;
    }

pub loop-t-preserved : goal.loop-t-preserved
loop-t-preserved c =
    let s = c in
    let at = c.loop-t in
    let o = c.turn.ensures in
    let st = state_of at.status at.weight at.previous in
    let e = sym (ap (λ k. ltb s.args.stop.0 k && eqb (get_or at.status s.args.stop.0 0) 2) at.invariant.0) ∙ sym c.is_stopped.ensures ∙ c.if-is_stopped.false in (
      c.turn.auto.status ∙ at.invariant.0,
      ready_as at.invariant.0 o.ready_2,
      (λ m. goes_on (length s.args.status.now) s.args.ends_a.now s.args.ends_b.now s.args.weights.now s.args.status.now s.args.weight.now s.args.previous.now s.args.stop.0 refl s.requires.begun at._t st at.invariant.2 m _ e (o.by_index m ∙ ap (λ k. take_chosen (graph_of k s.args.ends_a.now s.args.ends_b.now m) (weighs s.args.weights.now) st (to_take k st)) at.invariant.0)),
      c.turn.auto.node ∙ at.invariant.3,
      at.invariant.4,
    )

pub shape_of-status : goal.shape_of-status
shape_of-status c = c.loop-t.invariant.0

pub shape_of-weight : goal.shape_of-weight
shape_of-weight c = c.loop-t.invariant.1.weight_fits ∙ sym c.requires.ready.weight_fits

pub shape_of-previous : goal.shape_of-previous
shape_of-previous c = c.loop-t.invariant.1.previous_fits ∙ sym c.requires.ready.previous_fits

pub shape_of-node : goal.shape_of-node
shape_of-node c = c.loop-t.invariant.3

pub shape_of-leaf : goal.shape_of-leaf
shape_of-leaf c = c.loop-t.invariant.1.leaf_fits ∙ sym c.requires.ready.leaf_fits

pub returns : goal.returns
returns c = let s = c in
    let at = c.loop-t in
    let e : at._t ≡ length s.args.status.now = omega (arith, at.invariant.4) in
    record { by_index = (λ m. at.invariant.2 m ∙ ap (S.settle (graph_of (length s.args.status.now) s.args.ends_a.now s.args.ends_b.now m) (weighs s.args.weights.now) (sources s.args.status.now) (end_of (length s.args.status.now) s.args.stop.0)) e); ready_2 = at.invariant.1 }
