-- `codes_layers::counts::edge_num` meets its contract: the callees promise the counts of a layer and a gap, whose bounds times 4,096 fit. Assumes nothing.
use Prim.Native.Nat.{◌+◌, ◌*◌}
use native.Mathlib.Omega.{arith}
use Rattle.codes_layers.proofs.ByKind.{few}
use Rattle.codes_layers.proofs.counts.edge_num.Goals as goal

pub overflow_mul-result : goal.overflow_mul-result
overflow_mul-result c = omega (arith, few (c.args.rounds + 1) c.layer_edge_num-layer.result 4096 40000000 (omega arith) (omega arith))

pub overflow_mul-result-2 : goal.overflow_mul-result-2
overflow_mul-result-2 c = omega (arith, few c.args.rounds c.gap_edge_num-gap.result 4096 80000000 (omega arith) (omega arith))

pub overflow_add-result-2 : goal.overflow_add-result-2
overflow_add-result-2 c = omega (arith, few (c.args.rounds + 1) c.layer_edge_num-layer.result 4096 40000000 (omega arith) (omega arith), few c.args.rounds c.gap_edge_num-gap.result 4096 80000000 (omega arith) (omega arith))

pub returns : goal.returns
returns c = ((λ k. (c.args.rounds + 1) * c.layer_edge_num-layer.ensures.0 k + c.args.rounds * c.gap_edge_num-gap.ensures.0 k), omega (arith, few (c.args.rounds + 1) c.layer_edge_num-layer.result 4096 40000000 (omega arith) (omega arith), few c.args.rounds c.gap_edge_num-gap.result 4096 80000000 (omega arith) (omega arith)))
