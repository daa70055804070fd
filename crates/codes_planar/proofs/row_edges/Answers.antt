-- `codes_planar::row_edges` meets its contract. Invariant: the first i edges along the row are written. Assumes nothing.
use mathlib.Core.Path.{◌∙◌}
use Prim.Native.Nat.{◌+◌, ◌-◌}
use native.Mathlib.Omega.{arith}
use mathlib.Core.List.{[], ◌∷◌}
use Rattle.columns.specs.Lists.{each}
use Rattle.codes_writers.proofs.Wrote.{wrote_none, wrote-a, wrote-b, wrote_then, room_first, room-then, each_fits, each_turn, each-end}
use Rattle.codes_planar.specs.Planar.{row_edges}
use Rattle.codes_planar.proofs.row_edges.Goals as goal

pub loop-i-init : goal.loop-i-init
unfolding each
loop-i-init c = (omega arith, wrote_none)

pub push-next-requires : goal.push-next-requires
unfolding row_edges
push-next-requires c = each_fits (λ k. (c.args.bias + k, c.args.bias + k + 1)) (c.args.d - 1) (room_first _ _ c.requires.room) c.loop-i.invariant.1 c.loop-i-test.true

pub loop-i-preserved : goal.loop-i-preserved
loop-i-preserved c = (omega arith, each_turn (λ k. (c.args.bias + k, c.args.bias + k + 1)) c.loop-i.invariant.1 c.push-next.ensures)

pub push-requires : goal.push-requires
unfolding row_edges
push-requires c =
    let r = room-then ((c.args.bias, c.args.bias + c.args.d) ∷ []) c.requires.room (each-end _ c.loop-i.invariant.1 c.loop-i.invariant.0 c.loop-i-test.false) in
    omega (arith, r.room_a, r.room_b)

pub shape_of-ends_a : goal.shape_of-ends_a
shape_of-ends_a c = wrote-a c.push.ensures ∙ wrote-a c.loop-i.invariant.1

pub shape_of-ends_b : goal.shape_of-ends_b
shape_of-ends_b c = wrote-b c.push.ensures ∙ wrote-b c.loop-i.invariant.1

pub returns : goal.returns
unfolding row_edges
returns c = wrote_then (each-end _ c.loop-i.invariant.1 c.loop-i.invariant.0 c.loop-i-test.false) c.push.ensures
