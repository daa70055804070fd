-- `prebuilt_calls::boundaries::fill_all` meets its contract. Invariant: the first v places are filled. Assumes nothing.
use mathlib.Core.Path.{refl, ap, ◌∙◌}
use native.Mathlib.Omega.{arith}
use lib.ListN.{set}
use Rattle.columns.specs.Lists.{each}
use Rattle.columns.proofs.Counting.{store-each}
use Rattle.engine_columns.specs.Records.{engine_in}
use Rattle.engine_columns.proofs.Refusals.{long_of, sound_of}
use Rattle.query_questions.specs.Queries.{graph_in, weights_in}
use Rattle.query_search.proofs.Ranges.{in_range}
use Rattle.prebuilt_calls.specs.Boundaries.{boundary_weight, boundary_vertex}
use Rattle.prebuilt_calls.proofs.Replies.{tables_more}
use Rattle.prebuilt_calls.proofs.boundaries.fill_all.Goals as goal

pub loop-v-init : goal.loop-v-init
unfolding each
loop-v-init c = (refl, refl, record { none = λ z. (refl, refl, refl); last = λ u q. absurd (omega arith) })

pub loop-v-preserved : goal.loop-v-preserved
loop-v-preserved c =
    let a = c.args in
    let at = c.loop-v in
    let e = engine_in a.c a.ends_a.now a.ends_b.now a.weights.now a.boundary.now a.log_edges.now a.log_weights.now in
    let weight = boundary_weight (graph_in e) (weights_in e) in
    let vertex = boundary_vertex (graph_in e) (weights_in e) in
    let o = c.in_ok-fill_one.ensures.filled in (
      o.weights_after ∙ ap (λ l. set l at.v (weight at.v)) at.invariant.0 ∙ store-each a.out_weight.now at.v weight,
      o.vertices_after_holds ∙ ap (λ l. set l at.v (vertex at.v)) at.invariant.1 ∙ store-each a.out_vertex.now at.v vertex,
      tables_more e (in_range e (long_of 0 e c.requires.long) (sound_of e c.requires.is_sound_holds)) at.v c.loop-v-test.true at.invariant.2 o.table_after,
    )
