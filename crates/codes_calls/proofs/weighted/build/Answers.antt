-- `codes_calls::weighted::build` meets its contract: a refusal changes no column, and where no question refuses `create_code` builds what `weigh_edges` weighs. Assumes nothing.
use Rattle.std.specs.Prelude.{Err}
use borrow.Author.Rules.{rules}
use mathlib.Core.Path.{◌≡◌, refl, sym, ap, ◌∙◌}
use lib.Ieee.{Float}
use Rattle.codes_calls.specs.Columns.{CodeColumns, code_in}
use Rattle.codes_calls.specs.CreateCode.{refusal_in}
use Rattle.codes_calls.proofs.Outcome.{opened}
use Rattle.codes_calls.specs.NewCode.{new_refusal_in}
use Rattle.codes_weights.specs.Steps.{weighed_of}
use Rattle.codes_calls.proofs.WeightedOutcome.{number_is, new_number_lem, created_too, refused, weigh_room, built}
use Rattle.codes_calls.proofs.weighted.build.Goals as goal

pub returns-in_err-new_questions : goal.returns-in_err-new_questions
returns-in_err-new_questions c =
    let s = c.args in
    let lent : CodeColumns = code_in s.ends_a.now s.ends_b.now s.p.now s.pe.now s.half_weight.now s.erasure.now s.pos_i.now s.pos_j.now s.pos_t.now s.boundary.now s.defect.now s.list_lengths.now s.neighbor_numbers.now in
    let r : c.from_residual.result ≡ Err c.in_err-new_questions.field-0.0 = search rules in
    refused s.kind s.d s.rounds s.probability s.diagonal s.max_half_weight lent r (new_number_lem s.kind s.d s.rounds s.probability s.diagonal s.max_half_weight _ _ _ _ _ _ _ (number_is s.kind s.d s.rounds s.probability s.diagonal s.max_half_weight _ _ _ _ _ c.requires c.largest_weight-largest.ensures c.in_err-new_questions.ensures) c.shortest_of-vertex_room.ensures c.shortest_of-edge_room.ensures refl)

pub edge_count-n-requires : goal.edge_count-n-requires
edge_count-n-requires c =
    let s = c.args in
    let lent : CodeColumns = code_in s.ends_a.now s.ends_b.now s.p.now s.pe.now s.half_weight.now s.erasure.now s.pos_i.now s.pos_j.now s.pos_t.now s.boundary.now s.defect.now s.list_lengths.now s.neighbor_numbers.now in
    let made : refusal_in s.kind s.d s.rounds lent ≡ 0 = created_too s.kind s.d s.rounds _ _ _ _ _ _ 0 _ _ _ c.in_ok-new_questions.ensures refl c.shortest_of-vertex_room.ensures c.shortest_of-edge_room.ensures refl in
    (opened _ _ _ lent made).code

pub weigh_edges-requires : goal.weigh_edges-requires
weigh_edges-requires c =
    let s = c.args in
    let lent : CodeColumns = code_in s.ends_a.now s.ends_b.now s.p.now s.pe.now s.half_weight.now s.erasure.now s.pos_i.now s.pos_j.now s.pos_t.now s.boundary.now s.defect.now s.list_lengths.now s.neighbor_numbers.now in
    let made : refusal_in s.kind s.d s.rounds lent ≡ 0 = created_too s.kind s.d s.rounds _ _ _ _ _ _ 0 _ _ _ c.in_ok-new_questions.ensures refl c.shortest_of-vertex_room.ensures c.shortest_of-edge_room.ensures refl in
    weigh_room s.kind s.d s.rounds lent (code_in c.create_code-made.new.ends_a c.create_code-made.new.ends_b c.create_code-made.new.p c.create_code-made.new.pe c.create_code-made.new.half_weight c.create_code-made.new.erasure c.create_code-made.new.pos_i c.create_code-made.new.pos_j c.create_code-made.new.pos_t c.create_code-made.new.boundary c.create_code-made.new.defect c.create_code-made.new.list_lengths c.create_code-made.new.neighbor_numbers) _ _ _ (opened _ _ _ lent made) made c.create_code-made.ensures c.edge_count-n.ensures

pub returns : goal.returns
returns c =
    let s = c.args in
    let lent : CodeColumns = code_in s.ends_a.now s.ends_b.now s.p.now s.pe.now s.half_weight.now s.erasure.now s.pos_i.now s.pos_j.now s.pos_t.now s.boundary.now s.defect.now s.list_lengths.now s.neighbor_numbers.now in
    let made : refusal_in s.kind s.d s.rounds lent ≡ 0 = created_too s.kind s.d s.rounds _ _ _ _ _ _ 0 _ _ _ c.in_ok-new_questions.ensures refl c.shortest_of-vertex_room.ensures c.shortest_of-edge_room.ensures refl in
    let zero : new_refusal_in s.kind s.d s.rounds s.probability s.diagonal s.max_half_weight lent ≡ 0 = sym (new_number_lem s.kind s.d s.rounds s.probability s.diagonal s.max_half_weight _ _ _ _ _ _ _ (number_is s.kind s.d s.rounds s.probability s.diagonal s.max_half_weight _ _ _ _ _ c.requires c.largest_weight-largest.ensures c.in_ok-new_questions.ensures) c.shortest_of-vertex_room.ensures c.shortest_of-edge_room.ensures refl) in
    built s.kind s.d s.rounds s.probability s.diagonal s.max_half_weight _ _ _ lent (code_in c.create_code-made.new.ends_a c.create_code-made.new.ends_b c.create_code-made.new.p c.create_code-made.new.pe c.create_code-made.new.half_weight c.create_code-made.new.erasure c.create_code-made.new.pos_i c.create_code-made.new.pos_j c.create_code-made.new.pos_t c.create_code-made.new.boundary c.create_code-made.new.defect c.create_code-made.new.list_lengths c.create_code-made.new.neighbor_numbers) _ _ _ _ _ _ (opened _ _ _ lent made) c.requires zero made c.create_code-made.ensures c.edge_count-n.ensures c.largest_weight-largest.ensures
    c.weighed-straight.ensures (c.weighed-other.ensures ∙ ap (λ (x : Float). weighed_of x s.max_half_weight c.largest_weight-largest.result) c.diagonal_p.ensures)
    c.weigh_edges.ensures
