-- `query_crossings::crossing` meets its contract: 6 and 7 change no column, and else the answer is read from the state that `search` promises. Assumes nothing.
use mathlib.Core.Path.{◌≡◌, sym, ap, ◌∙◌, subst}
use native.Mathlib.Omega.{arith}
use borrow.Author.Rules.{rules}
use lib.ListN.{length, take}
use Rattle.std.specs.Prelude.{Err}
use Rattle.engine_columns.specs.Records.{engine_in}
use Rattle.engine_columns.proofs.Refusals.{columns-long-from, columns-sound-from}
use Rattle.query_questions.specs.Queries.{graph_in, weights_in}
use Rattle.query_questions.specs.Scratch.{scratch_in}
use Rattle.query_crossing_answer.specs.Crossing.{crossing_asked, FoundCrossing}
use Rattle.query_search.proofs.Asked.{scratch_of_lem}
use Rattle.query_search.proofs.Reading.{state-read}
use Rattle.query_crossings.proofs.Crossings.{crossing_of, found-left, crossing_found, crossing_refused}
use Rattle.query_crossings.proofs.crossing.Goals as goal

pub returns-in_err-crossing_asked : goal.returns-in_err-crossing_asked
returns-in_err-crossing_asked c =
    let a = c.args in
    let e = engine_in a.c a.ends_a.now a.ends_b.now a.weights.now a.boundary.now a.log_edges.now a.log_weights.now in
    let s = scratch_in a.neighbor_numbers.now a.list_ends.now a.status.now a.weight.now a.previous.now a.node.now a.leaf.now in
    let r : c.from_residual.result ≡ Err c.in_err-crossing_asked.field-0.0 = search rules in
    subst (λ x. FoundCrossing e x a.out_weight.now a.out_weight.now s s) (sym r) (crossing_refused e a.out_weight.now s _ (c.in_err-crossing_asked.ensures ∙ ap (λ fits. crossing_asked e fits (length a.out_weight.now) 0) c.scratch_fits-room.ensures))

pub search-requires-clause-boundary_value : goal.search-requires-clause-boundary_value
search-requires-clause-boundary_value c =
    let a = c.args in
    let e = engine_in a.c a.ends_a.now a.ends_b.now a.weights.now a.boundary.now a.log_edges.now a.log_weights.now in
    let k = crossing_of e _ _ (sym c.in_ok-crossing_asked.ensures) in (columns-long-from _ _ _ _ _ _ k.long.columns, columns-sound-from _ _ _ _ _ _ k.sound.columns)

pub found_crossing-requires-clause-lengths : goal.found_crossing-requires-clause-lengths
found_crossing-requires-clause-lengths c =
    let a = c.args in
    let e = engine_in a.c a.ends_a.now a.ends_b.now a.weights.now a.boundary.now a.log_edges.now a.log_weights.now in
    let k = crossing_of e _ _ (sym c.in_ok-crossing_asked.ensures) in
    let l = scratch_of_lem _ _ (sym c.scratch_fits-room.ensures ∙ k.scratch_is) in
    (omega (arith, c.search.auto.status, l.status_long), omega (arith, c.search.auto.weight, l.weight_long), k.long.columns.boundary, k.weights_long)

pub returns : goal.returns
returns c =
    let a = c.args in
    let e = engine_in a.c a.ends_a.now a.ends_b.now a.weights.now a.boundary.now a.log_edges.now a.log_weights.now in
    let s = scratch_in a.neighbor_numbers.now a.list_ends.now a.status.now a.weight.now a.previous.now a.node.now a.leaf.now in
    let z = sym (c.in_ok-crossing_asked.ensures ∙ ap (λ fits. crossing_asked e fits (length a.out_weight.now) 0) c.scratch_fits-room.ensures) in
    let h = c.search.ensures in
    crossing_found e a.out_weight.now s z h.scratch_after
    (found-left (graph_in e) (weights_in e) _ (state-read h.scratch_after h.settles) (c.found_crossing.ensures (take a.c.vertices c.search.new.previous)))
