-- `prebuilt_calls::boundaries::fill_boundaries` meets its contract: a refusal changes no column, and else `fill_all` fills both. Assumes nothing.
use mathlib.Core.Path.{◌≡◌, sym, ap, ◌∙◌, subst}
use borrow.Author.Rules.{rules}
use lib.ListN.{length}
use Rattle.std.specs.Prelude.{Err}
use Rattle.engine_columns.specs.Records.{engine_in}
use Rattle.query_questions.specs.Scratch.{scratch_in}
use Rattle.prebuilt_calls.specs.Boundaries.{boundaries_refusal, FilledBoundaries}
use Rattle.prebuilt_calls.proofs.Filled.{boundaries_filled, boundaries_refused}
use Rattle.prebuilt_calls.proofs.boundaries.fill_boundaries.Goals as goal

pub returns-in_err-boundaries_asked : goal.returns-in_err-boundaries_asked
returns-in_err-boundaries_asked c =
    let a = c.args in
    let e = engine_in a.c a.ends_a.now a.ends_b.now a.weights.now a.boundary.now a.log_edges.now a.log_weights.now in
    let s = scratch_in a.neighbor_numbers.now a.list_ends.now a.status.now a.weight.now a.previous.now a.node.now a.leaf.now in
    let d = c.in_err-boundaries_asked.ensures ∙ ap (λ fits. boundaries_refusal e fits (length a.out_weight.now) (length a.out_vertex.now) (length a.least.now) (length a.before.now)) c.scratch_fits-room.ensures in
    let r : c.from_residual.result ≡ Err c.in_err-boundaries_asked.field-0.0 = search rules in
    subst (λ x. FilledBoundaries e x a.out_weight.now a.out_weight.now a.out_vertex.now a.out_vertex.now a.least.now a.least.now a.before.now a.before.now s s) (sym r)
    (boundaries_refused e a.out_weight.now a.out_vertex.now a.least.now a.before.now s _ d)

pub returns : goal.returns
returns c =
    let a = c.args in
    let e = engine_in a.c a.ends_a.now a.ends_b.now a.weights.now a.boundary.now a.log_edges.now a.log_weights.now in
    let s = scratch_in a.neighbor_numbers.now a.list_ends.now a.status.now a.weight.now a.previous.now a.node.now a.leaf.now in
    let z = sym (c.in_ok-boundaries_asked.ensures ∙ ap (λ fits. boundaries_refusal e fits (length a.out_weight.now) (length a.out_vertex.now) (length a.least.now) (length a.before.now)) c.scratch_fits-room.ensures) in
    boundaries_filled e a.out_weight.now a.out_vertex.now a.least.now a.before.now s z c.fill_all.ensures.ok c.fill_all.ensures.filled
