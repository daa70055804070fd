-- `engine_calls::open` meets its contract: where every question is met, the columns have room for whole copies. Assumes nothing.
use mathlib.Core.Path.{sym, ◌∙◌}
use Rattle.columns.proofs.Columns.{copy-after}
use Rattle.columns_answers.proofs.Said.{accepted-of}
use Rattle.engine_columns.specs.Open.{graph_columns}
use Rattle.engine_columns.proofs.Refusals.{opens_of}
use Rattle.engine_calls.proofs.open.Goals as goal

pub returns : goal.returns
returns c =
    let a = c.args in
    let h = graph_columns a.in_a.now a.in_b.now a.in_weights.now a.in_boundary.now in
    let l = graph_columns a.ends_a.now a.ends_b.now a.weights.now a.boundary.now in
    let z = sym c.in_ok-open_refusal.ensures in
    let o = opens_of a.vertices a.edges h l z in
    record {
      answers = accepted-of z;
      ends_a_after = c.copy.ensures ∙ copy-after a.edges _ a.ends_a.now a.in_a.now z o.from.ends_a o.to.ends_a;
      ends_b_after = c.copy-2.ensures ∙ copy-after a.edges _ a.ends_b.now a.in_b.now z o.from.ends_b o.to.ends_b;
      weights_after = c.copy-3.ensures ∙ copy-after a.edges _ a.weights.now a.in_weights.now z o.from.weights o.to.weights;
      boundary_after = c.copy-4.ensures ∙ copy-after a.vertices _ a.boundary.now a.in_boundary.now z o.from.boundary o.to.boundary;
    }
