-- `engine_calls::reset` meets its contract: each edge of the log has a weight, and the log has its entries. Assumes nothing.
use mathlib.Core.Path.{sym}
use native.Mathlib.Omega.{arith}
use Rattle.engine_columns.specs.Records.{engine}
use Rattle.engine_columns.proofs.Refusals.{reset-long, reset-named}
use Rattle.engine_calls.proofs.reset.Goals as goal

pub undo_all-requires-clause-by_index : goal.undo_all-requires-clause-by_index
undo_all-requires-clause-by_index c i h =
    let a = c.args in
    let e = engine a.c a.ends_a.now a.ends_b.now a.weights.now a.boundary.now a.log_edges.now a.log_weights.now in
    let z = sym c.in_ok-reset_refusal.ensures in omega (arith, reset-named e z i h, (reset-long e z).columns.weights)

pub undo_all-requires-clause-n_in_bounds : goal.undo_all-requires-clause-n_in_bounds
undo_all-requires-clause-n_in_bounds c =
    let a = c.args in
    let e = engine a.c a.ends_a.now a.ends_b.now a.weights.now a.boundary.now a.log_edges.now a.log_weights.now in
    let l = reset-long e (sym c.in_ok-reset_refusal.ensures) in (omega (arith, l.log_edges), omega (arith, l.log_weights))
