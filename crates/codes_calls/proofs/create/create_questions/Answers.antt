-- `codes_calls::create::create_questions` meets its contract: question 6 is asked of the counts of a code that questions 2 to 5 accept. Assumes nothing.
use Rattle.std.specs.Prelude.{Err}
use borrow.Author.Rules.{rules}
use Rattle.columns.specs.Questions.{ask}
use Rattle.columns.specs.Refusals.{question_of}
use Rattle.codes_layers.specs.Counts.{vertex_num, edge_num}
use Rattle.codes_calls.specs.Columns.{long_enough}
use mathlib.Core.Path.{◌≡◌, sym, ap, ◌∙◌}
use Rattle.codes_layers.proofs.Accepted.{accepted}
use Rattle.codes_calls.specs.CreateCode.{create_refusal}
use Rattle.codes_calls.proofs.create.create_questions.Goals as goal

pub returns-in_err-code_questions : goal.returns-in_err-code_questions
unfolding create_refusal
returns-in_err-code_questions c =
    let r : c.from_residual.result ≡ Err c.in_err-code_questions.field-0.0 = search rules in
    ap question_of r ∙ c.in_err-code_questions.ensures.then _

pub vertex_num-vertices-requires : goal.vertex_num-vertices-requires
vertex_num-vertices-requires c =
    let ok = (accepted c.args.kind c.args.d c.args.rounds 0 (sym c.in_ok-code_questions.ensures.number)).0 in
    (ok.distance.three, (ok.distance.few, ok.few_rounds))

pub edge_num-edges-requires : goal.edge_num-edges-requires
edge_num-edges-requires c =
    let ok = (accepted c.args.kind c.args.d c.args.rounds 0 (sym c.in_ok-code_questions.ensures.number)).0 in
    (ok.distance.three, (ok.distance.few, ok.few_rounds))

pub returns : goal.returns
unfolding create_refusal
returns c =
    let s = c.args in
    let six : question_of c.require.result ≡ ask (long_enough (vertex_num s.kind s.d s.rounds) (edge_num s.kind s.d s.rounds) s.vertex_room s.edge_room s.numbers) 6 0 = search rules in
    six ∙ c.in_ok-code_questions.ensures.then _
