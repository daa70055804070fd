-- `codes_questions::edge_num` meets its contract: an accepted code has few edges, so the cast is exact. Assumes nothing.
use mathlib.Core.Path.{sym}
use native.Mathlib.Omega.{arith}
use Rattle.codes_layers.proofs.Accepted.{accepted, edges_few}
use Rattle.codes_questions.proofs.edge_num.Goals as goal

pub edge_num-requires : goal.edge_num-requires
edge_num-requires c =
    let ok = (accepted c.args.kind c.args.d c.args.rounds 0 (sym c.in_ok-code_questions.ensures.number)).0 in
    (ok.distance.three, (ok.distance.few, ok.few_rounds))

pub overflow_cast-result : goal.overflow_cast-result
overflow_cast-result c =
    let ok = (accepted c.args.kind c.args.d c.args.rounds 0 (sym c.in_ok-code_questions.ensures.number)).0 in
    omega (arith, edges_few c.args.kind c.args.d c.args.rounds ok, c.edge_num.ensures.0)
