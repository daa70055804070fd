-- `access_vertices::positions::get_positions` meets its contract: accepted, the columns have room for whole copies. Assumes nothing.
use mathlib.Core.Path.{sym, ◌∙◌}
use Rattle.columns.proofs.Columns.{copy-after}
use Rattle.columns_answers.proofs.Said.{accepted-of}
use Rattle.access_vertices.proofs.Long.{positions_long_lem}
use Rattle.access_vertices.proofs.positions.get_positions.Goals as goal

pub copy_positions-requires : goal.copy_positions-requires
copy_positions-requires c = (positions_long_lem _ _ _ (sym c.in_ok-positions_questions.ensures)).0

pub returns : goal.returns
returns c =
    let s = c.args in
    let z = sym c.in_ok-positions_questions.ensures in
    let (from, to) = positions_long_lem _ _ _ z in
    let e = c.copy_positions.ensures in
    record {
      answers = accepted-of z;
      pos_i_after = e.to_i_after ∙ copy-after s.vertex_num _ s.to_i.now s.pos_i.now z from.0 to.0;
      pos_j_after = e.to_j_after ∙ copy-after s.vertex_num _ s.to_j.now s.pos_j.now z from.1 to.1;
      pos_t_after = e.to_t_after ∙ copy-after s.vertex_num _ s.to_t.now s.pos_t.now z from.2 to.2;
    }
