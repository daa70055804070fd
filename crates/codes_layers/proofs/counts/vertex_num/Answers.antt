-- `codes_layers::counts::vertex_num` meets its contract: the callee promises the count of a layer, and 4,096 times its bound fits. Assumes nothing.
use mathlib.Core.Path.{ap}
use Prim.Native.Nat.{ℕ, ◌+◌, ◌*◌}
use native.Mathlib.Omega.{arith}
use Rattle.codes_layers.proofs.ByKind.{few}
use Rattle.codes_layers.proofs.counts.vertex_num.Goals as goal

pub overflow_mul-result : goal.overflow_mul-result
overflow_mul-result c = omega (arith, few (c.args.rounds + 1) c.layer_vertex_num-layer.result 4096 16773120 (omega arith) (omega arith))

pub returns : goal.returns
returns c = ap (λ (n : ℕ). (c.args.rounds + 1) * n) c.layer_vertex_num-layer.ensures.0
