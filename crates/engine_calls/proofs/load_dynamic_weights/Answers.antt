-- `engine_calls::load_dynamic_weights` meets its contract: each edge of the list has a weight, and the log has room. Assumes nothing.
use mathlib.Core.Path.{sym}
use native.Mathlib.Omega.{arith}
use Rattle.engine_columns.specs.Records.{engine}
use Rattle.engine_columns.proofs.Refusals.{named_of, weighed_of_lem}
use Rattle.engine_calls.proofs.load_dynamic_weights.Goals as goal

pub weigh_all-requires-clause-by_index : goal.weigh_all-requires-clause-by_index
weigh_all-requires-clause-by_index c i h =
    let a = c.args in
    let e = engine a.c a.ends_a.now a.ends_b.now a.weights.now a.boundary.now a.log_edges.now a.log_weights.now in
    let l = (weighed_of_lem a.list.now a.values.now e (sym c.in_ok-load_weights_refusal.ensures)).loads in omega (arith, named_of a.list.now e _ l i h, l.long.columns.weights)

pub weigh_all-requires-clause-list_in_bounds : goal.weigh_all-requires-clause-list_in_bounds
weigh_all-requires-clause-list_in_bounds c =
    let a = c.args in
    let e = engine a.c a.ends_a.now a.ends_b.now a.weights.now a.boundary.now a.log_edges.now a.log_weights.now in
    let w = weighed_of_lem a.list.now a.values.now e (sym c.in_ok-load_weights_refusal.ensures) in (omega (arith, w.loads.long.log_edges), omega (arith, w.loads.long.log_weights), w.many)
