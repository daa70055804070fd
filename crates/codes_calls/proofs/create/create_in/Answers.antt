-- `codes_calls::create::create_in` meets its contract: a refusal changes no column, and where no question refuses the columns are filled. Assumes nothing.
use Rattle.std.specs.Prelude.{Err}
use borrow.Author.Rules.{rules}
use mathlib.Core.Path.{◌≡◌, refl, ◌∙◌}
use native.Mathlib.Omega.{arith}
use Rattle.codes_layers.proofs.Accepted.{edges_few}
use Rattle.codes_calls.specs.Columns.{CodeColumns, code_in}
use Rattle.codes_calls.proofs.Outcome.{create_number, open_of, accepted-number, edges-long, vertices_long, lists_fit, refused, built}
use Rattle.codes_calls.proofs.create.create_in.Goals as goal

pub returns-in_err-create_questions : goal.returns-in_err-create_questions
returns-in_err-create_questions c =
    let s = c.args in
    let lent : CodeColumns = code_in s.ends_a.now s.ends_b.now s.p.now s.pe.now s.half_weight.now s.erasure.now s.pos_i.now s.pos_j.now s.pos_t.now s.boundary.now s.defect.now s.list_lengths.now s.neighbor_numbers.now in
    let r : c.from_residual.result ≡ Err c.in_err-create_questions.field-0.0 = search rules in
    refused s.kind s.d s.rounds lent r (c.in_err-create_questions.ensures ∙ create_number _ _ _ _ _ _ _ _ _ _ refl c.shortest_of-vertex_room.ensures c.shortest_of-edge_room.ensures refl)

pub fill_edges-e-requires : goal.fill_edges-e-requires
fill_edges-e-requires c =
    let s = c.args in
    let lent : CodeColumns = code_in s.ends_a.now s.ends_b.now s.p.now s.pe.now s.half_weight.now s.erasure.now s.pos_i.now s.pos_j.now s.pos_t.now s.boundary.now s.defect.now s.list_lengths.now s.neighbor_numbers.now in
    let o = open_of s.kind s.d s.rounds lent c.in_ok-create_questions.ensures c.shortest_of-vertex_room.ensures c.shortest_of-edge_room.ensures in
    record { buildable = o.code; edge_columns_long = edges-long _ _ _ lent o }

pub fill_vertices-v-requires : goal.fill_vertices-v-requires
fill_vertices-v-requires c =
    let s = c.args in
    let lent : CodeColumns = code_in s.ends_a.now s.ends_b.now s.p.now s.pe.now s.half_weight.now s.erasure.now s.pos_i.now s.pos_j.now s.pos_t.now s.boundary.now s.defect.now s.list_lengths.now s.neighbor_numbers.now in
    let o = open_of s.kind s.d s.rounds lent c.in_ok-create_questions.ensures c.shortest_of-vertex_room.ensures c.shortest_of-edge_room.ensures in
    record { buildable = o.code; vertex_columns_long = vertices_long _ _ _ lent o }

pub fill_lists-requires : goal.fill_lists-requires
fill_lists-requires c =
    let s = c.args in
    let lent : CodeColumns = code_in s.ends_a.now s.ends_b.now s.p.now s.pe.now s.half_weight.now s.erasure.now s.pos_i.now s.pos_j.now s.pos_t.now s.boundary.now s.defect.now s.list_lengths.now s.neighbor_numbers.now in
    let o = open_of s.kind s.d s.rounds lent c.in_ok-create_questions.ensures c.shortest_of-vertex_room.ensures c.shortest_of-edge_room.ensures in
    let both = lists_fit _ _ _ lent o _ _ s.list_ends.now _ _ c.fill_edges-e.ensures.in_a c.fill_edges-e.ensures.in_b c.fill_edges-e.ensures.count c.fill_vertices-v.ensures.count c.requires in
    record { e_in_bounds = both.0; e_bound = both.1 }

pub overflow_cast-result : goal.overflow_cast-result
overflow_cast-result c =
    let s = c.args in
    let lent : CodeColumns = code_in s.ends_a.now s.ends_b.now s.p.now s.pe.now s.half_weight.now s.erasure.now s.pos_i.now s.pos_j.now s.pos_t.now s.boundary.now s.defect.now s.list_lengths.now s.neighbor_numbers.now in
    let o = open_of s.kind s.d s.rounds lent c.in_ok-create_questions.ensures c.shortest_of-vertex_room.ensures c.shortest_of-edge_room.ensures in
    omega (arith, c.fill_vertices-v.ensures.count, o.ok.few_vertices)

pub overflow_cast-result-2 : goal.overflow_cast-result-2
overflow_cast-result-2 c =
    let s = c.args in
    let lent : CodeColumns = code_in s.ends_a.now s.ends_b.now s.p.now s.pe.now s.half_weight.now s.erasure.now s.pos_i.now s.pos_j.now s.pos_t.now s.boundary.now s.defect.now s.list_lengths.now s.neighbor_numbers.now in
    let o = open_of s.kind s.d s.rounds lent c.in_ok-create_questions.ensures c.shortest_of-vertex_room.ensures c.shortest_of-edge_room.ensures in
    omega (arith, c.fill_edges-e.ensures.count, edges_few s.kind s.d s.rounds o.ok)

pub returns : goal.returns
returns c =
    let s = c.args in
    let lent : CodeColumns = code_in s.ends_a.now s.ends_b.now s.p.now s.pe.now s.half_weight.now s.erasure.now s.pos_i.now s.pos_j.now s.pos_t.now s.boundary.now s.defect.now s.list_lengths.now s.neighbor_numbers.now in
    let o = open_of s.kind s.d s.rounds lent c.in_ok-create_questions.ensures c.shortest_of-vertex_room.ensures c.shortest_of-edge_room.ensures in
    built _ _ _ _ lent _ (accepted-number s.kind s.d s.rounds lent c.in_ok-create_questions.ensures c.shortest_of-vertex_room.ensures c.shortest_of-edge_room.ensures) o _ _ _ c.fill_edges-e.ensures c.fill_vertices-v.ensures c.fill_lists.ensures
