-- `codes_layers::counts::layer_vertex_num` meets its contract: each case of the kind is that of `layer_vertex_num`, which fits since d is at most 4,095. Assumes nothing.
use Prim.Native.Nat.{◌+◌, ◌/◌}
use native.Mathlib.Omega.{arith}
use borrow.Author.Tests.{eq-eqb, ne_eqb, le-leb, lt-leb}
use Rattle.codes_layers.specs.Counts.{layer_vertex_num}
use Rattle.codes_layers.proofs.ByKind.{few}
use borrow.Author.Rules.{rules}
use Rattle.codes_layers.proofs.counts.layer_vertex_num.Goals as goal

pub returns-then-kind-eq1 : goal.returns-then-kind-eq1
unfolding layer_vertex_num
returns-then-kind-eq1 c = (simp (eq-eqb _ _ c.if-kind-eq1.true), search rules)

pub overflow_mul-result : goal.overflow_mul-result
overflow_mul-result c = omega (arith, few c.args.d (c.args.d + 1) 4095 4096 (omega arith) (omega arith))

pub returns-then-kind-le4 : goal.returns-then-kind-le4
unfolding layer_vertex_num
returns-then-kind-le4 c = (simp (ne_eqb _ _ c.if-kind-eq1.false, le-leb _ _ c.if-kind-le4.true), omega (arith, few c.args.d (c.args.d + 1) 4095 4096 (omega arith) (omega arith)))

pub overflow_mul-result-2 : goal.overflow_mul-result-2
overflow_mul-result-2 c = omega (arith, few ((c.args.d + 1) / 2) (c.args.d + 1) 4095 4096 (omega arith) (omega arith))

pub returns : goal.returns
unfolding layer_vertex_num
returns c = (simp (ne_eqb _ _ c.if-kind-eq1.false, lt-leb _ _ c.if-kind-le4.false), omega (arith, few ((c.args.d + 1) / 2) (c.args.d + 1) 4095 4096 (omega arith) (omega arith)))
