-- `codes_writers::straight_edges` meets its contract. Invariant: the first i edges are written. Assumes nothing.
use Prim.Native.Nat.{◌+◌}
use native.Mathlib.Omega.{arith}
use Rattle.columns.specs.Lists.{each}
use Rattle.codes_writers.specs.Edges.{straight_edges}
use Rattle.codes_writers.proofs.Wrote.{wrote_none, wrote-a, wrote-b, each_fits, each_turn, each-end}
use Rattle.codes_writers.proofs.straight_edges.Goals as goal

pub loop-i-init : goal.loop-i-init
unfolding each
loop-i-init c = (omega arith, wrote_none)

pub push-next-requires : goal.push-next-requires
unfolding straight_edges
push-next-requires c = each_fits (λ k. (c.args.bias + k, c.args.bias + k + c.args.far)) c.args.n c.requires.room c.loop-i.invariant.1 c.loop-i-test.true

pub loop-i-preserved : goal.loop-i-preserved
loop-i-preserved c = (omega arith, each_turn (λ k. (c.args.bias + k, c.args.bias + k + c.args.far)) c.loop-i.invariant.1 c.push-next.ensures)

pub shape_of-ends_a : goal.shape_of-ends_a
shape_of-ends_a c = wrote-a c.loop-i.invariant.1

pub shape_of-ends_b : goal.shape_of-ends_b
shape_of-ends_b c = wrote-b c.loop-i.invariant.1

pub returns : goal.returns
unfolding straight_edges
returns c = each-end _ c.loop-i.invariant.1 c.loop-i.invariant.0 c.loop-i-test.false
