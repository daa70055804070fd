-- `access_calls::get_initializer` meets its contract: accepted, each callee promises the column that it stores. Assumes nothing.
use mathlib.Core.Path.{sym, ◌∙◌}
use Rattle.columns.proofs.Columns.{copy-after, after-accepted}
use Rattle.columns_answers.proofs.Said.{accepted-of}
use Rattle.access_calls.proofs.Refusals.{initializer_met}
use Rattle.access_calls.proofs.get_initializer.Goals as goal

pub store_weights-requires : goal.store_weights-requires
store_weights-requires c =
    let m = initializer_met _ _ _ _ (sym c.in_ok-initializer_questions.ensures) in
    record { n_in_bounds = (m.half, m.to_weight); by_index = m.halves }

pub list_set-requires : goal.list_set-requires
list_set-requires c =
    let m = initializer_met _ _ _ _ (sym c.in_ok-initializer_questions.ensures) in
    (m.boundary, m.to_virtual)

pub returns : goal.returns
returns c =
    let s = c.args in
    let e = s.edge_num in
    let z = sym c.in_ok-initializer_questions.ensures in
    let m = initializer_met _ _ _ _ z in
    let p = c.list_set.ensures in
    record {
      answers = rw p.0 (accepted-of z);
      ends_a_after = c.copy.ensures ∙ copy-after e _ s.to_a.now s.ends_a.now z m.a m.to_a;
      ends_b_after = c.copy-2.ensures ∙ copy-after e _ s.to_b.now s.ends_b.now z m.b m.to_b;
      weight_after = c.store_weights.ensures ∙ sym (after-accepted _ _ s.to_weight.now z);
      virtual_after = p.1 ∙ sym (after-accepted _ _ s.to_virtual.now z);
    }
