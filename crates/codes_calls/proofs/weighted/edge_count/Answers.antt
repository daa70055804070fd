-- `codes_calls::weighted::edge_count` meets its contract: a code that can be built has distance and rounds within the limits that `edge_num` requires. Assumes nothing.
use native.Mathlib.Omega.{arith}
use Rattle.codes_layers.proofs.Accepted.{accepted}
use Rattle.codes_calls.proofs.weighted.edge_count.Goals as goal

pub edge_num-requires : goal.edge_num-requires
edge_num-requires c =
    let ok = (accepted c.args.kind c.args.d c.args.rounds 0 c.requires).0 in
    omega (arith, ok.distance.three, ok.distance.few, ok.few_rounds)
