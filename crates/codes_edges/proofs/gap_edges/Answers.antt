-- `codes_edges::gap_edges` meets its contract: in each case of the kind the callee writes what `gap_edges` has there, and without a gap that is nothing. Assumes nothing.
use mathlib.Core.Path.{sym}
use Prim.Native.Nat.{◌+◌}
use native.Mathlib.Nat.{mul_comm}
use native.Mathlib.Omega.{arith}
use Rattle.codes_writers.proofs.Wrote.{room_as, wrote_as, wrote_none}
use Rattle.codes_planar.specs.Planar.{planar_gap}
use Rattle.codes_rotated.specs.Rotated.{rotated_width, rotated_gap}
use Rattle.codes_layers.proofs.ByKind.{planar-rows, rotated-rows, planar-gaps, circuit-gaps, rotated-gaps, no_gaps}
use Rattle.codes_edges.proofs.gap_edges.Goals as goal

pub overflow_mul-d : goal.overflow_mul-d
overflow_mul-d c = omega (arith, planar-rows c.args.kind c.args.d (λ q. omega arith) (omega arith))

pub straight_rows-requires : goal.straight_rows-requires
unfolding planar_gap
straight_rows-requires c = record { room = room_as (planar-gaps c.args.kind c.args.d c.args.base c.if-kind-eq3.true) c.requires.room; n_bound = omega (arith, planar-rows c.args.kind c.args.d (λ q. omega arith) (omega arith)) }

pub shape_of-ends_a-then-kind-eq3 : goal.shape_of-ends_a-then-kind-eq3
shape_of-ends_a-then-kind-eq3 c = c.ends_a-1.given

pub shape_of-ends_b-then-kind-eq3 : goal.shape_of-ends_b-then-kind-eq3
shape_of-ends_b-then-kind-eq3 c = c.ends_b-1.given

pub returns-then-kind-eq3 : goal.returns-then-kind-eq3
unfolding planar_gap
returns-then-kind-eq3 c = wrote_as (sym (planar-gaps c.args.kind c.args.d c.args.base c.if-kind-eq3.true)) c.straight_rows.ensures

pub circuit_gap-requires : goal.circuit_gap-requires
circuit_gap-requires c = record { room = room_as (circuit-gaps c.args.kind c.args.d c.args.base c.if-kind-eq4.true) c.requires.room; le_d = omega (arith, planar-rows c.args.kind c.args.d (λ q. omega arith) (omega arith)) }

pub shape_of-ends_a-then-kind-eq4 : goal.shape_of-ends_a-then-kind-eq4
shape_of-ends_a-then-kind-eq4 c = c.ends_a-then-kind-eq4-1.given

pub shape_of-ends_b-then-kind-eq4 : goal.shape_of-ends_b-then-kind-eq4
shape_of-ends_b-then-kind-eq4 c = c.ends_b-then-kind-eq4-1.given

pub returns-then-kind-eq4 : goal.returns-then-kind-eq4
returns-then-kind-eq4 c = wrote_as (sym (circuit-gaps c.args.kind c.args.d c.args.base c.if-kind-eq4.true)) c.circuit_gap.ensures

pub overflow_mul-w : goal.overflow_mul-w
overflow_mul-w c = omega (arith, rotated-rows c.args.kind c.args.d (omega arith), mul_comm (rotated_width c.args.d) (c.args.d + 1))

pub straight_rows-requires-then-kind-eq6 : goal.straight_rows-requires-then-kind-eq6
unfolding rotated_gap
straight_rows-requires-then-kind-eq6 c = record { room = room_as (rotated-gaps c.args.kind c.args.d c.args.base c.if-kind-eq6.true) c.requires.room; n_bound = omega (arith, rotated-rows c.args.kind c.args.d (omega arith), mul_comm (rotated_width c.args.d) (c.args.d + 1)) }

pub shape_of-ends_a-then-kind-eq6 : goal.shape_of-ends_a-then-kind-eq6
shape_of-ends_a-then-kind-eq6 c = c.ends_a-then-kind-eq6-1.given

pub shape_of-ends_b-then-kind-eq6 : goal.shape_of-ends_b-then-kind-eq6
shape_of-ends_b-then-kind-eq6 c = c.ends_b-then-kind-eq6-1.given

pub returns-then-kind-eq6 : goal.returns-then-kind-eq6
unfolding rotated_gap
returns-then-kind-eq6 c = wrote_as (sym (rotated-gaps c.args.kind c.args.d c.args.base c.if-kind-eq6.true)) c.straight_rows-then-kind-eq6.ensures

pub returns : goal.returns
returns c = wrote_as (sym (no_gaps c.args.kind c.args.d c.args.base c.if-kind-eq3.false c.if-kind-eq4.false c.if-kind-eq6.false)) wrote_none
