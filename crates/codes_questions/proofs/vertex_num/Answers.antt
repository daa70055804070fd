-- `codes_questions::vertex_num` meets its contract: an accepted code has at most 4,096 vertices. Assumes nothing.
use mathlib.Core.Path.{sym}
use native.Mathlib.Omega.{arith}
use Rattle.codes_layers.proofs.Accepted.{accepted}
use Rattle.codes_questions.proofs.vertex_num.Goals as goal

pub vertex_num-requires : goal.vertex_num-requires
vertex_num-requires c =
    let ok = (accepted c.args.kind c.args.d c.args.rounds 0 (sym c.in_ok-code_questions.ensures.number)).0 in
    (ok.distance.three, (ok.distance.few, ok.few_rounds))

pub overflow_cast-result : goal.overflow_cast-result
overflow_cast-result c =
    let ok = (accepted c.args.kind c.args.d c.args.rounds 0 (sym c.in_ok-code_questions.ensures.number)).0 in
    omega (arith, ok.few_vertices, c.vertex_num.ensures)
