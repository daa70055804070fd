-- `codes_rotated::rotated_row` meets its contract. Invariant: the first i edges of the row are written. Assumes nothing.
use mathlib.Core.List.{[], ◌∷◌}
use Prim.Native.Nat.{◌+◌, ◌*◌}
use native.Mathlib.Omega.{arith}
use Rattle.columns.specs.Lists.{each}
use Rattle.codes_writers.proofs.Wrote.{wrote_none, wrote-a, wrote-b, wrote_as, each_fits, each_turn, each-end}
use Rattle.codes_rotated.specs.Rotated.{rotated_width, rotated_edge, rotated_row}
use Rattle.codes_rotated.proofs.rotated_row.Goals as goal

pub loop-i-init : goal.loop-i-init
unfolding each
loop-i-init c = (omega arith, wrote_none)

pub push-next-requires : goal.push-next-requires
unfolding rotated_row
push-next-requires c = each_fits (λ k. rotated_edge (rotated_width c.args.d) (c.args.base + c.args.row * rotated_width c.args.d) c.args.row k) c.args.d c.requires.room c.loop-i.invariant.1 c.loop-i-test.true

pub loop-i-preserved : goal.loop-i-preserved
unfolding rotated_edge
loop-i-preserved c = (omega arith, each_turn (λ k. rotated_edge (rotated_width c.args.d) (c.args.base + c.args.row * rotated_width c.args.d) c.args.row k) c.loop-i.invariant.1 (wrote_as (λ k. (c.args.base + c.args.row * rotated_width c.args.d + c.rotated_place.ensures.0 k, c.args.base + c.args.row * rotated_width c.args.d + rotated_width c.args.d + c.rotated_place-in-loop-i.ensures.0 k) ∷ []) c.push-next.ensures))

pub shape_of-ends_a : goal.shape_of-ends_a
shape_of-ends_a c = wrote-a c.loop-i.invariant.1

pub shape_of-ends_b : goal.shape_of-ends_b
shape_of-ends_b c = wrote-b c.loop-i.invariant.1

pub returns : goal.returns
unfolding rotated_row
returns c = each-end _ c.loop-i.invariant.1 c.loop-i.invariant.0 c.loop-i-test.false
