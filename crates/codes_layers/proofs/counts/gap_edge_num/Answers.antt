-- `codes_layers::counts::gap_edge_num` meets its contract: each case of the kind is that of `gap_edge_num`, and the sums fit since d is at most 4,095. Assumes nothing.
use Prim.Native.Nat.{◌-◌}
use native.Mathlib.Omega.{arith}
use borrow.Author.Tests.{eq-eqb, ne_eqb}
use Rattle.codes_layers.specs.Counts.{gap_edge_num}
use Rattle.codes_layers.proofs.ByKind.{few}
use borrow.Author.Rules.{rules}
use Rattle.codes_layers.proofs.counts.gap_edge_num.Goals as goal

pub overflow_mul-result : goal.overflow_mul-result
overflow_mul-result c = omega (arith, few c.args.d (c.args.d - 1) 4095 4095 (omega arith) (omega arith))

pub returns-then-kind-eq3 : goal.returns-then-kind-eq3
unfolding gap_edge_num
returns-then-kind-eq3 c = (simp (eq-eqb _ _ c.if-kind-eq3.true), omega (arith, few c.args.d (c.args.d - 1) 4095 4095 (omega arith) (omega arith)))

pub overflow_mul-result-then-kind-eq4 : goal.overflow_mul-result-then-kind-eq4
overflow_mul-result-then-kind-eq4 c = omega (arith, few c.args.d (c.args.d - 1) 4095 4095 (omega arith) (omega arith))

pub overflow_mul-result-then-kind-eq4-2 : goal.overflow_mul-result-then-kind-eq4-2
overflow_mul-result-then-kind-eq4-2 c = omega (arith, few c.args.d (c.args.d - 2) 4095 4095 (omega arith) (omega arith))

pub overflow_add-result : goal.overflow_add-result
overflow_add-result c = omega (arith, few c.args.d (c.args.d - 1) 4095 4095 (omega arith) (omega arith), few c.args.d (c.args.d - 2) 4095 4095 (omega arith) (omega arith))

pub overflow_mul-result-then-kind-eq4-3 : goal.overflow_mul-result-then-kind-eq4-3
overflow_mul-result-then-kind-eq4-3 c = omega (arith, few (c.args.d - 1) (c.args.d - 1) 4095 4095 (omega arith) (omega arith))

pub overflow_add-result-then-kind-eq4 : goal.overflow_add-result-then-kind-eq4
overflow_add-result-then-kind-eq4 c = omega (arith, few c.args.d (c.args.d - 1) 4095 4095 (omega arith) (omega arith), few c.args.d (c.args.d - 2) 4095 4095 (omega arith) (omega arith), few (c.args.d - 1) (c.args.d - 1) 4095 4095 (omega arith) (omega arith))

pub overflow_mul-result-then-kind-eq4-4 : goal.overflow_mul-result-then-kind-eq4-4
overflow_mul-result-then-kind-eq4-4 c = omega (arith, few (c.args.d - 1) (c.args.d - 2) 4095 4095 (omega arith) (omega arith))

pub overflow_add-result-then-kind-eq4-2 : goal.overflow_add-result-then-kind-eq4-2
overflow_add-result-then-kind-eq4-2 c = omega (arith, few c.args.d (c.args.d - 1) 4095 4095 (omega arith) (omega arith), few c.args.d (c.args.d - 2) 4095 4095 (omega arith) (omega arith), few (c.args.d - 1) (c.args.d - 1) 4095 4095 (omega arith) (omega arith), few (c.args.d - 1) (c.args.d - 2) 4095 4095 (omega arith) (omega arith))

pub returns-then-kind-eq4 : goal.returns-then-kind-eq4
unfolding gap_edge_num
returns-then-kind-eq4 c = (simp (ne_eqb _ _ c.if-kind-eq3.false, eq-eqb _ _ c.if-kind-eq4.true), omega (arith, few c.args.d (c.args.d - 1) 4095 4095 (omega arith) (omega arith), few c.args.d (c.args.d - 2) 4095 4095 (omega arith) (omega arith), few (c.args.d - 1) (c.args.d - 1) 4095 4095 (omega arith) (omega arith), few (c.args.d - 1) (c.args.d - 2) 4095 4095 (omega arith) (omega arith)))

pub returns-then-kind-eq6 : goal.returns-then-kind-eq6
unfolding gap_edge_num
returns-then-kind-eq6 c = (simp (ne_eqb _ _ c.if-kind-eq3.false, ne_eqb _ _ c.if-kind-eq4.false, eq-eqb _ _ c.if-kind-eq6.true) c.layer_vertex_num.ensures.0, omega (arith, c.layer_vertex_num.ensures))

pub returns : goal.returns
unfolding gap_edge_num
returns c = (simp (ne_eqb _ _ c.if-kind-eq3.false, ne_eqb _ _ c.if-kind-eq4.false, ne_eqb _ _ c.if-kind-eq6.false), search rules)
