-- `engine_calls::load_erasures` meets its contract: each edge of the list has a weight, and the log has room. Assumes nothing.
use mathlib.Core.Path.{sym}
use native.Mathlib.Omega.{arith}
use Rattle.engine_columns.specs.Records.{engine}
use Rattle.engine_columns.proofs.Refusals.{loads_of, named_of}
use Rattle.engine_calls.proofs.load_erasures.Goals as goal

pub erase_all-requires-clause-by_index : goal.erase_all-requires-clause-by_index
erase_all-requires-clause-by_index c i h =
    let a = c.args in
    let e = engine a.c a.ends_a.now a.ends_b.now a.weights.now a.boundary.now a.log_edges.now a.log_weights.now in
    let l = loads_of a.list.now e 0 (sym c.in_ok-load_erasures_refusal.ensures) in omega (arith, named_of a.list.now e 0 l i h, l.long.columns.weights)

pub erase_all-requires-clause-list_in_bounds : goal.erase_all-requires-clause-list_in_bounds
erase_all-requires-clause-list_in_bounds c =
    let a = c.args in
    let e = engine a.c a.ends_a.now a.ends_b.now a.weights.now a.boundary.now a.log_edges.now a.log_weights.now in
    let l = loads_of a.list.now e 0 (sym c.in_ok-load_erasures_refusal.ensures) in (omega (arith, l.long.log_edges), omega (arith, l.long.log_weights))
