-- `codes_edges::layer_size` meets its contract: the callees promise the rows and the width, and by `requires` their product is at most 4,096. Assumes nothing.
use mathlib.Core.Path.{◌≡◌}
use Prim.Native.Nat.{◌*◌}
use native.Mathlib.Omega.{arith}
use Rattle.codes_layers.specs.Codes.{rows, width}
use Rattle.codes_edges.proofs.layer_size.Goals as goal

pub overflow_mul-result : goal.overflow_mul-result
overflow_mul-result c =
    let e : c.rows_of.result * c.width_of.result ≡ rows c.args.kind c.args.d * width c.args.kind c.args.d = (λ k. c.rows_of.ensures k * c.width_of.ensures.0 k) in
    omega arith

pub returns : goal.returns
returns c = (λ k. c.rows_of.ensures k * c.width_of.ensures.0 k)
