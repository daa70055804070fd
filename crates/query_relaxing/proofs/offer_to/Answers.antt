-- `query_relaxing::offer_to` meets its contract: `tie_rule` and `is_accepted` decide as the definition does, and `wait` makes the change. Assumes nothing.
use mathlib.Core.Path.{◌≡◌, sym, ap, ◌∙◌}
use native.Mathlib.Omega.{arith}
use mathlib.Core.Bool.{true, false, cond}
use Rattle.engine_walks.specs.Settling.{status_at, weight_at, previous_at, changes, waits}
use Rattle.query_relaxing.specs.Ready.{state_of, takes_up}
use Rattle.query_relaxing.proofs.Keys.{offer_by}
use Rattle.query_relaxing.proofs.offer_to.Goals as goal

pub offset_bounds-weight-at : goal.offset_bounds-weight-at
offset_bounds-weight-at c = omega (arith, c.requires.ready.few)

pub bounds-weight-at : goal.bounds-weight-at
bounds-weight-at c = omega (arith, c.requires.ready.weight_fits)

pub offset_bounds-previous-at : goal.offset_bounds-previous-at
offset_bounds-previous-at c = omega (arith, c.requires.ready.few)

pub bounds-previous-at : goal.bounds-previous-at
bounds-previous-at c = omega (arith, c.requires.ready.previous_fits)

pub wait-requires : goal.wait-requires
wait-requires c = let s = c in record { ready = s.requires.ready; u_in_bounds = s.requires.u_in_bounds }

pub shape_of-status : goal.shape_of-status
shape_of-status c = c.status-1.given

pub shape_of-weight : goal.shape_of-weight
shape_of-weight c = c.weight-1.given

pub shape_of-previous : goal.shape_of-previous
shape_of-previous c = c.previous-1.given

pub shape_of-node : goal.shape_of-node
shape_of-node c = c.node-1.given

pub shape_of-leaf : goal.shape_of-leaf
shape_of-leaf c = c.leaf-1.given

pub returns-then-is_accepted : goal.returns-then-is_accepted
returns-then-is_accepted c = let s = c in
    let st = state_of s.args.status.now s.args.weight.now s.args.previous.now in
    let w = c.wait.ensures in
    let e : takes_up (status_at st s.args.u.0) (changes s.args.u.0 s.args.k s.args.q.0 (weight_at st s.args.u.0) (previous_at st s.args.u.0)) ≡ true = ap (takes_up (status_at st s.args.u.0)) (sym c.tie_rule-change.ensures) ∙ sym c.is_accepted.ensures ∙ c.if-is_accepted.true in
    record { previous_after = w.previous_after ∙ ap (λ b. cond b (waits s.args.u.0 s.args.k s.args.a.0 st) st) (sym e) ∙ sym (offer_by s.args.a.0 s.args.q.0 s.args.u.0 s.args.k st); ready_2 = w.ready_2 }

pub returns-else-is_accepted : goal.returns-else-is_accepted
returns-else-is_accepted c = let s = c in
    let st = state_of s.args.status.now s.args.weight.now s.args.previous.now in
    let e : takes_up (status_at st s.args.u.0) (changes s.args.u.0 s.args.k s.args.q.0 (weight_at st s.args.u.0) (previous_at st s.args.u.0)) ≡ false = ap (takes_up (status_at st s.args.u.0)) (sym c.tie_rule-change.ensures) ∙ sym c.is_accepted.ensures ∙ c.if-is_accepted.false in
    record { previous_after = ap (λ b. cond b (waits s.args.u.0 s.args.k s.args.a.0 st) st) (sym e) ∙ sym (offer_by s.args.a.0 s.args.q.0 s.args.u.0 s.args.k st); ready_2 = s.requires.ready }
