-- `query_tables::all_edges_with_terminate` meets its contract: where no question fails the search settles the defined state, and its table is written. Assumes nothing.
use mathlib.Core.Path.{◌≡◌, sym, ap, ◌∙◌, subst}
use borrow.Author.Rules.{rules}
use lib.ListN.{length}
use Rattle.std.specs.Prelude.{Err}
use Rattle.engine_columns.specs.Records.{engine_in}
use Rattle.query_questions.specs.Scratch.{scratch_in}
use Rattle.query_search.proofs.Asked.{query_columns}
use Rattle.query_tables.specs.Tables.{table_refusal, FoundTable}
use Rattle.query_tables.proofs.Tables.{table_found, table_refused}
use Rattle.query_tables.proofs.all_edges_with_terminate.Goals as goal

pub returns-in_err-table_asked : goal.returns-in_err-table_asked
returns-in_err-table_asked c =
    let a = c.args in
    let e = engine_in a.c a.ends_a.now a.ends_b.now a.weights.now a.boundary.now a.log_edges.now a.log_weights.now in
    let s = scratch_in a.neighbor_numbers.now a.list_ends.now a.status.now a.weight.now a.previous.now a.node.now a.leaf.now in
    let d = c.in_err-table_asked.ensures ∙ ap (λ fits. table_refusal e fits a.source.0 a.end (length a.out_weight.now) (length a.out_previous.now)) c.scratch_fits-room.ensures in
    let r : c.from_residual.result ≡ Err c.in_err-table_asked.field-0.0 = search rules in
    subst (λ x. FoundTable e a.source.0 a.end x a.out_weight.now a.out_weight.now a.out_previous.now a.out_previous.now s s) (sym r)
    (table_refused e a.source.0 a.end a.out_weight.now a.out_previous.now s _ d)

pub search-requires-clause-boundary_value : goal.search-requires-clause-boundary_value
search-requires-clause-boundary_value c =
    let a = c.args in
    query_columns (engine_in a.c a.ends_a.now a.ends_b.now a.weights.now a.boundary.now a.log_edges.now a.log_weights.now) _ _ 0 (sym c.in_ok-table_asked.ensures)

pub returns : goal.returns
returns c =
    let a = c.args in
    let e = engine_in a.c a.ends_a.now a.ends_b.now a.weights.now a.boundary.now a.log_edges.now a.log_weights.now in
    let s = scratch_in a.neighbor_numbers.now a.list_ends.now a.status.now a.weight.now a.previous.now a.node.now a.leaf.now in
    let z = sym (c.in_ok-table_asked.ensures ∙ ap (λ fits. table_refusal e fits a.source.0 a.end (length a.out_weight.now) (length a.out_previous.now)) c.scratch_fits-room.ensures) in
    let h = c.search.ensures in
    let w = c.write_table.ensures in
    table_found e a.source.0 a.end a.out_weight.now a.out_previous.now s _ z c.stop_of-stop.ensures h.scratch_after h.settles w.weights_after w.previous_after
