-- `codes_edges::layer_edges` meets its contract: in each case of the kind the callee writes what `layer_edges` has there. Assumes nothing.
use mathlib.Core.Path.{sym}
use Prim.Native.Nat.{◌+◌}
use native.Mathlib.Nat.{mul_comm}
use native.Mathlib.Omega.{arith}
use Rattle.codes_writers.proofs.Wrote.{room_as, wrote_as}
use Rattle.codes_rotated.specs.Rotated.{rotated_width}
use Rattle.codes_layers.proofs.ByKind.{planar-rows, rotated-rows, one-layer, planar-layers, rotated-layers}
use Rattle.codes_edges.proofs.layer_edges.Goals as goal

pub row_edges-requires : goal.row_edges-requires
row_edges-requires c = record { room = room_as (one-layer c.args.kind c.args.d c.args.base c.if-kind-eq1.true) c.requires.room; le_d = omega arith }

pub shape_of-ends_a-then-kind-eq1 : goal.shape_of-ends_a-then-kind-eq1
shape_of-ends_a-then-kind-eq1 c = c.ends_a-1.given

pub shape_of-ends_b-then-kind-eq1 : goal.shape_of-ends_b-then-kind-eq1
shape_of-ends_b-then-kind-eq1 c = c.ends_b-1.given

pub returns-then-kind-eq1 : goal.returns-then-kind-eq1
returns-then-kind-eq1 c = wrote_as (sym (one-layer c.args.kind c.args.d c.args.base c.if-kind-eq1.true)) c.row_edges.ensures

pub planar_layer-requires : goal.planar_layer-requires
planar_layer-requires c = record { room = room_as (planar-layers c.args.kind c.args.d c.args.base c.if-kind-eq1.false c.if-kind-le4.true) c.requires.room; le_d = omega (arith, planar-rows c.args.kind c.args.d c.if-kind-eq1.false c.if-kind-le4.true) }

pub shape_of-ends_a-then-kind-le4 : goal.shape_of-ends_a-then-kind-le4
shape_of-ends_a-then-kind-le4 c = c.ends_a-then-kind-le4-1.given

pub shape_of-ends_b-then-kind-le4 : goal.shape_of-ends_b-then-kind-le4
shape_of-ends_b-then-kind-le4 c = c.ends_b-then-kind-le4-1.given

pub returns-then-kind-le4 : goal.returns-then-kind-le4
returns-then-kind-le4 c = wrote_as (sym (planar-layers c.args.kind c.args.d c.args.base c.if-kind-eq1.false c.if-kind-le4.true)) c.planar_layer.ensures

pub rotated_layer-requires : goal.rotated_layer-requires
rotated_layer-requires c = record { room = room_as (rotated-layers c.args.kind c.args.d c.args.base c.if-kind-le4.false) c.requires.room; le_d = omega (arith, rotated-rows c.args.kind c.args.d c.if-kind-le4.false, mul_comm (rotated_width c.args.d) (c.args.d + 1)) }

pub shape_of-ends_a : goal.shape_of-ends_a
shape_of-ends_a c = c.ends_a-2-1.given

pub shape_of-ends_b : goal.shape_of-ends_b
shape_of-ends_b c = c.ends_b-2-1.given

pub returns : goal.returns
returns c = wrote_as (sym (rotated-layers c.args.kind c.args.d c.args.base c.if-kind-le4.false)) c.rotated_layer.ensures
