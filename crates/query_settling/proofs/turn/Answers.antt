-- `query_settling::turn` meets its contract: no vertex waits where the least key is NONE, else it names the vertex that the definition takes. Assumes nothing.
use mathlib.Core.Path.{◌≡◌, refl, sym, ap, ◌∙◌}
use Prim.Native.Nat.{◌%◌}
use native.Mathlib.Omega.{arith}
use mathlib.Core.Bool.{true≢false}
use lib.ListN.{length, length-set, set}
use Rattle.engine_walks.specs.Settling.{take_chosen}
use Rattle.query_relaxing.specs.Ready.{state_of, graph_of, weighs}
use Rattle.query_relaxing.proofs.Keys.{ready_as, ready-takes}
use Rattle.query_settling.proofs.Choice.{takes_none, taken_is, v_in, turn_along, turn_is}
use Rattle.query_settling.proofs.turn.Goals as goal

pub least-key-requires : goal.least-key-requires
least-key-requires c = let p = c.requires in record { fact_1 = (p.ready.node_fits, omega (arith, p.ready.leaf_fits)); fact_2 = p.status_nonzero.0; fact_3 = p.ready.few; fact_4 = p.ready.tree }

pub returns-then-key : goal.returns-then-key
returns-then-key c = let s = c in
    let st = state_of s.args.status.now s.args.weight.now s.args.previous.now in
    let e = takes_none s.requires.ready c.least-key.result c.least-key.ensures c.if-key.true in
    record { by_index = (λ m. ap (take_chosen (graph_of (length s.args.status.now) s.args.ends_a.now s.args.ends_b.now m) (weighs s.args.weights.now) st) (sym e)); ready_2 = s.requires.ready; previous_value = λ _. e }

pub offset_bounds-weight-v : goal.offset_bounds-weight-v
offset_bounds-weight-v c =
    let s = c in
    let st = state_of s.args.status.now s.args.weight.now s.args.previous.now in
    let t = taken_is s.requires.ready c.least-key.result c.least-key.ensures c.if-key.false in
    omega (arith, t.0, s.requires.ready.few)

pub bounds-weight-v : goal.bounds-weight-v
bounds-weight-v c =
    let s = c in
    let st = state_of s.args.status.now s.args.weight.now s.args.previous.now in
    let t = taken_is s.requires.ready c.least-key.result c.least-key.ensures c.if-key.false in
    omega (arith, t.0, s.requires.ready.weight_fits)

pub offset_bounds-previous-v : goal.offset_bounds-previous-v
offset_bounds-previous-v c =
    let s = c in
    let st = state_of s.args.status.now s.args.weight.now s.args.previous.now in
    let t = taken_is s.requires.ready c.least-key.result c.least-key.ensures c.if-key.false in
    omega (arith, t.0, s.requires.ready.few)

pub bounds-previous-v : goal.bounds-previous-v
bounds-previous-v c =
    let s = c in
    let st = state_of s.args.status.now s.args.weight.now s.args.previous.now in
    let t = taken_is s.requires.ready c.least-key.result c.least-key.ensures c.if-key.false in
    omega (arith, t.0, s.requires.ready.previous_fits)

pub list_start-from-requires : goal.list_start-from-requires
list_start-from-requires c =
    let s = c in
    let st = state_of s.args.status.now s.args.weight.now s.args.previous.now in
    let t = taken_is s.requires.ready c.least-key.result c.least-key.ensures c.if-key.false in
    omega (arith, t.0, s.requires.listed.ends_fit)

pub offset_bounds-list_ends-v : goal.offset_bounds-list_ends-v
offset_bounds-list_ends-v c =
    let s = c in
    let st = state_of s.args.status.now s.args.weight.now s.args.previous.now in
    let t = taken_is s.requires.ready c.least-key.result c.least-key.ensures c.if-key.false in
    omega (arith, t.0, s.requires.ready.few)

pub bounds-list_ends-v : goal.bounds-list_ends-v
bounds-list_ends-v c =
    let s = c in
    let st = state_of s.args.status.now s.args.weight.now s.args.previous.now in
    let t = taken_is s.requires.ready c.least-key.result c.least-key.ensures c.if-key.false in
    omega (arith, t.0, s.requires.listed.ends_fit)

pub bounds-status-v : goal.bounds-status-v
bounds-status-v c =
    let s = c in
    let st = state_of s.args.status.now s.args.weight.now s.args.previous.now in
    let t = taken_is s.requires.ready c.least-key.result c.least-key.ensures c.if-key.false in
    omega (arith, t.0)

pub put-requires : goal.put-requires
put-requires c = let s = c in
    let st = state_of s.args.status.now s.args.weight.now s.args.previous.now in
    let t = taken_is s.requires.ready c.least-key.result c.least-key.ensures c.if-key.false in
    record { fact_1 = (s.requires.ready.node_fits, omega (arith, s.requires.ready.leaf_fits)); fact_2 = omega (arith, t.0); fact_3 = s.requires.ready.few; fact_4 = s.requires.ready.tree }

pub relax_list-requires : goal.relax_list-requires
relax_list-requires c = let s = c in
    let least = c.least-key in
    let st = state_of s.args.status.now s.args.weight.now s.args.previous.now in
    let v = least.result % 4096 in
    let p = c.put.ensures in
    let inside = v_in s.requires.ready least.result least.ensures c.if-key.false s.requires.listed v (least.result % 4096) c.list_start-from.result _ refl refl c.list_start-from.ensures refl in
    let len : length s.args.status.now ≡ length (set s.args.status.now v 2) = sym (length-set s.args.status.now v 2) in record { ready = ready_as len (ready-takes s.requires.ready _ _ p.node_len_unchanged p.tree v inside p.leaf_after); along = turn_along s.requires.ready least.result least.ensures c.if-key.false s.requires.listed v (least.result % 4096) c.list_start-from.result _ refl refl c.list_start-from.ensures refl len s.requires.status_nonzero.1 }

pub shape_of-status : goal.shape_of-status
shape_of-status c = let s = c in c.relax_list.auto.status ∙ length-set s.args.status.now _ 2

pub returns : goal.returns
returns c = let s = c in
    let least = c.least-key in
    let st = state_of s.args.status.now s.args.weight.now s.args.previous.now in
    let v = least.result % 4096 in
    let q = c.relax_list.ensures in
    let len : length (set s.args.status.now v 2) ≡ length s.args.status.now = length-set s.args.status.now v 2 in
    record { by_index = (λ m. turn_is s.requires.ready least.result least.ensures c.if-key.false s.requires.listed v (least.result % 4096) c.list_start-from.result _ refl refl c.list_start-from.ensures refl m _ (q.by_index (length s.args.status.now) m)); ready_2 = ready_as len q.ready_2; previous_value = λ e. absurd (true≢false e) }
