-- `query_search::search` meets its contract: columns cut to their counts are searched, and what the cuts leave is what whole columns leave. Assumes nothing.
use mathlib.Core.Path.{◌∙◌}
use lib.Seq.{length-take-le}
use Rattle.engine_columns.specs.Records.{engine_without_log}
use Rattle.engine_columns.proofs.Refusals.{columns-long-of, columns-sound-of}
use Rattle.query_questions.specs.Queries.{graph_in, weights_in}
use Rattle.query_questions.specs.Scratch.{scratch_in}
use Rattle.query_search.specs.Search.{state_from}
use Rattle.query_search.proofs.Asked.{scratch_of_lem, searchable}
use Rattle.query_search.proofs.Scratch.{searched_as, search_left}
use Rattle.query_search.proofs.search.Goals as goal

pub search_cut-requires-clause-searchable : goal.search_cut-requires-clause-searchable
search_cut-requires-clause-searchable c =
    let a = c.args in
    let r = c.requires in
    searchable a.c a.ends_a.now a.ends_b.now a.weights.now a.boundary.now a.neighbor_numbers.now a.list_ends.now a.status.now a.weight.now a.previous.now a.node.now a.leaf.now
    (columns-long-of _ _ _ _ _ _ r.boundary_value.0) (columns-sound-of _ _ _ _ _ _ r.boundary_value.1) (scratch_of_lem _ _ r.leaf_value.0)

pub returns : goal.returns
returns c =
    let a = c.args in
    let e = engine_without_log a.c a.ends_a.now a.ends_b.now a.weights.now a.boundary.now in
    let s = scratch_in a.neighbor_numbers.now a.list_ends.now a.status.now a.weight.now a.previous.now a.node.now a.leaf.now in
    let l = scratch_of_lem _ _ c.requires.leaf_value.0 in
    let found = searched_as a.origin (weights_in e) (length-take-le a.c.vertices a.status.now l.status_long) c.search_cut.ensures in
    let r = found.ready in
    record {
      scratch_after = search_left (graph_in e) (state_from a.origin (graph_in e) (weights_in e)) s (c.search_cut.auto.list_ends ∙ length-take-le a.c.vertices a.list_ends.now l.ends_long)
          (c.search_cut.auto.node ∙ length-take-le a.c.vertices a.node.now l.node_long) found;
      settles = record { few = r.few; status_fits = r.status_fits; weight_fits = r.weight_fits; previous_fits = r.previous_fits; weights_within = r.weights_within };
    }
