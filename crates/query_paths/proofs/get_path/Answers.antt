-- `query_paths::get_path` meets its contract: a question before 17 changes no column, and else the path is that of the state that `search` promises. Assumes nothing.
use mathlib.Core.Path.{◌≡◌, sym, ap, ◌∙◌, subst}
use borrow.Author.Rules.{rules}
use lib.ListN.{length}
use Rattle.std.specs.Prelude.{Err}
use Rattle.engine_columns.specs.Records.{engine_in}
use Rattle.query_questions.specs.Scratch.{scratch_in}
use Rattle.query_paths.specs.GetPath.{path_asked, GotPath}
use Rattle.query_paths.proofs.PathAsked.{path_columns, path_found, path_refused}
use Rattle.query_paths.proofs.get_path.Goals as goal

pub returns-in_err-path_asked : goal.returns-in_err-path_asked
returns-in_err-path_asked c =
    let a = c.args in
    let e = engine_in a.c a.ends_a.now a.ends_b.now a.weights.now a.boundary.now a.log_edges.now a.log_weights.now in
    let s = scratch_in a.neighbor_numbers.now a.list_ends.now a.status.now a.weight.now a.previous.now a.node.now a.leaf.now in
    let d = c.in_err-path_asked.ensures ∙ ap (λ fits. path_asked e fits a.a.0 a.b.0 (length a.out_vertices.now) (length a.out_steps.now)) c.scratch_fits-room.ensures in
    let r : c.from_residual.result ≡ Err c.in_err-path_asked.field-0.0 = search rules in
    subst (λ x. GotPath e a.a.0 a.b.0 x a.out_vertices.now a.out_vertices.now a.out_steps.now a.out_steps.now s s) (sym r) (path_refused e a.a.0 a.b.0 a.out_vertices.now a.out_steps.now s _ d)

pub search-requires-clause-boundary_value : goal.search-requires-clause-boundary_value
search-requires-clause-boundary_value c =
    let a = c.args in
    path_columns (engine_in a.c a.ends_a.now a.ends_b.now a.weights.now a.boundary.now a.log_edges.now a.log_weights.now) _ a.a.0 a.b.0 _ _ (sym c.in_ok-path_asked.ensures)

pub returns : goal.returns
returns c =
    let a = c.args in
    let e = engine_in a.c a.ends_a.now a.ends_b.now a.weights.now a.boundary.now a.log_edges.now a.log_weights.now in
    let s = scratch_in a.neighbor_numbers.now a.list_ends.now a.status.now a.weight.now a.previous.now a.node.now a.leaf.now in
    let z = sym (c.in_ok-path_asked.ensures ∙ ap (λ fits. path_asked e fits a.a.0 a.b.0 (length a.out_vertices.now) (length a.out_steps.now)) c.scratch_fits-room.ensures) in
    let h = c.search.ensures in
    let f = c.found_path.ensures in path_found e a.a.0 a.b.0 a.out_vertices.now a.out_steps.now s z h.scratch_after h.settles f.path_said f.out_vertices_after f.out_steps_after
