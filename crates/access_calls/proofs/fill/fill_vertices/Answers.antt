-- `access_calls::fill::fill_vertices` meets its contract: accepted, each callee promises the column that it fills. Assumes nothing.
use mathlib.Core.Path.{sym, ◌∙◌}
use Rattle.columns.specs.Places.{zero_float}
use Rattle.columns.proofs.Columns.{after-accepted}
use Rattle.columns_answers.proofs.Said.{accepted-of}
use Rattle.access_calls.proofs.Filling.{fill_met, fill_after}
use Rattle.access_calls.proofs.fill.fill_vertices.Goals as goal

pub write_lists-requires : goal.write_lists-requires
write_lists-requires c =
    let m = fill_met _ _ _ _ _ (sym c.in_ok-fill_questions.ensures) in
    let g = m.sound in
    record { e_in_bounds = (g.long_a, g.long_b, m.list_lengths, m.neighbor_numbers); e_bound = (g.few_edges, g.few_vertices, g.in_a, g.in_b) }

pub returns : goal.returns
returns c =
    let s = c.args in
    let v = s.vertex_num in
    let z = sym c.in_ok-fill_questions.ensures in
    let m = fill_met _ _ _ _ _ z in
    let p = c.fill_positions.ensures in
    let w = c.write_lists.ensures in
    record {
      answers = accepted-of z;
      pos_i_after = p.pos_i_after ∙ fill_after v _ s.pos_i.now zero_float z m.pos_i;
      pos_j_after = p.pos_j_after ∙ fill_after v _ s.pos_j.now zero_float z m.pos_j;
      pos_t_after = p.pos_t_after ∙ fill_after v _ s.pos_t.now zero_float z m.pos_t;
      boundary_after = c.fill.ensures ∙ fill_after v _ s.boundary.now 0 z m.boundary;
      defect_after = c.fill-2.ensures ∙ fill_after v _ s.defect.now 0 z m.defect;
      list_lengths_after = w.0 ∙ sym (after-accepted _ _ s.list_lengths.now z);
      neighbor_numbers_after = w.1 ∙ sym (after-accepted _ _ s.neighbor_numbers.now z);
    }
