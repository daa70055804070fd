-- `text_numbers::lines::put_vertices` meets its contract. Invariant: the lines of the first v vertices are put, and the text keeps its length. Assumes nothing.
use mathlib.Core.Path.{◌≡◌, refl, ap, ◌∙◌}
use Prim.Native.Nat.{ℕ}
use native.Mathlib.Omega.{arith}
use Rattle.columns.specs.Lists.{joined}
use Rattle.text_numbers.specs.Text.{vertex_line, vertex_lines}
use Rattle.text_numbers.proofs.Putting.{none, more, renamed, long_kept}
use Rattle.text_numbers.proofs.Sizes.{vertices_few}
use Rattle.text_numbers.proofs.lines.put_vertices.Goals as goal

pub loop-v-init : goal.loop-v-init
unfolding joined
loop-v-init c = (omega arith, refl, none c.args.text.now c.args.at)

pub put_vertex-next-requires : goal.put_vertex-next-requires
put_vertex-next-requires c =
    let s = c.args in
    let l = c.loop-v in
    omega (arith, c.requires.0, c.requires.1, c.requires.2, l.invariant.2.next, vertices_few l.v s.boundary.now)

pub loop-v-preserved : goal.loop-v-preserved
loop-v-preserved c =
    let s = c.args in
    let l = c.loop-v in
    let p = c.put_vertex-next.ensures in
    (omega arith, long_kept p ∙ l.invariant.1, more (vertex_line s.boundary.now) l.v l.invariant.2 p)

pub shape_of-text : goal.shape_of-text
shape_of-text c = c.loop-v.invariant.1

pub returns : goal.returns
unfolding vertex_lines
returns c =
    let s = c.args in
    let l = c.loop-v in
    let all : l.v ≡ s.n = omega arith in
    renamed (ap (λ (k : ℕ). joined k (vertex_line s.boundary.now)) all) l.invariant.2
