-- `codes_layers::vertices::row_vertices` meets its contract. Invariant: the first i vertices of the row are written. Assumes nothing.
use mathlib.Core.List.{[], ◌∷◌}
use native.Mathlib.Omega.{arith}
use Rattle.columns.specs.Lists.{each}
use Rattle.columns.proofs.Counting.{length-each}
use Rattle.codes_writers.proofs.Placing.{placed-none, placed-kept, placed-as, more_room, each_placed, each-done}
use Rattle.codes_layers.specs.Codes.{width, vertex_of}
use Rattle.codes_layers.proofs.vertices.row_vertices.Goals as goal

pub loop-i-init : goal.loop-i-init
unfolding each
loop-i-init c = (omega arith, placed-none)

pub push_vertex-next-requires : goal.push_vertex-next-requires
push_vertex-next-requires c = more_room (width c.args.kind c.args.d) 1 c.requires.vertex_room (omega (arith, length-each c.loop-i.i (λ k. vertex_of c.args.kind c.args.d c.args.t c.args.row k), c.width_of-w.ensures.0)) c.loop-i.invariant.1

pub loop-i-preserved : goal.loop-i-preserved
loop-i-preserved c = (omega arith, each_placed (λ k. vertex_of c.args.kind c.args.d c.args.t c.args.row k) c.loop-i.invariant.1 (placed-as (λ k. c.vertex_of-v.ensures k ∷ []) c.push_vertex-next.ensures))

pub shape_of-boundary : goal.shape_of-boundary
shape_of-boundary c = (placed-kept c.loop-i.invariant.1).kept_m

pub shape_of-pos_i : goal.shape_of-pos_i
shape_of-pos_i c = (placed-kept c.loop-i.invariant.1).kept_i

pub shape_of-pos_j : goal.shape_of-pos_j
shape_of-pos_j c = (placed-kept c.loop-i.invariant.1).kept_j

pub shape_of-pos_t : goal.shape_of-pos_t
shape_of-pos_t c = (placed-kept c.loop-i.invariant.1).kept_t

pub returns : goal.returns
returns c = each-done _ c.loop-i.invariant.1 (omega (arith, c.loop-i.invariant.0, c.width_of-w.ensures.0)) (omega (arith, c.loop-i-test.false, c.width_of-w.ensures.0))
