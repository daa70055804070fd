-- `text_numbers::lines::put_edges` meets its contract. Invariant: the lines of the first e edges are put, and the text keeps its length. Assumes nothing.
use mathlib.Core.Path.{◌≡◌, refl, ap, ◌∙◌}
use Prim.Native.Nat.{ℕ}
use native.Mathlib.Omega.{arith}
use Rattle.columns.specs.Lists.{joined}
use Rattle.text_numbers.specs.Text.{edge_line, edge_lines}
use Rattle.text_numbers.proofs.Putting.{none, more, renamed, long_kept}
use Rattle.text_numbers.proofs.Sizes.{edges_few}
use Rattle.text_numbers.proofs.lines.put_edges.Goals as goal

pub loop-e-init : goal.loop-e-init
unfolding joined
loop-e-init c = (omega arith, refl, none c.args.text.now c.args.at)

pub put_edge-next-requires : goal.put_edge-next-requires
put_edge-next-requires c =
    let s = c.args in
    let l = c.loop-e in
    let p = c.requires in
    omega (arith, p.0, p.1, p.2, p.3, p.4, l.invariant.2.next, edges_few l.e s.ends_a.now s.ends_b.now s.weights.now)

pub loop-e-preserved : goal.loop-e-preserved
loop-e-preserved c =
    let s = c.args in
    let l = c.loop-e in
    let p = c.put_edge-next.ensures in
    (omega arith, long_kept p ∙ l.invariant.1, more (edge_line s.ends_a.now s.ends_b.now s.weights.now) l.e l.invariant.2 p)

pub shape_of-text : goal.shape_of-text
shape_of-text c = c.loop-e.invariant.1

pub returns : goal.returns
unfolding edge_lines
returns c =
    let s = c.args in
    let l = c.loop-e in
    let all : l.e ≡ s.n = omega arith in
    renamed (ap (λ (k : ℕ). joined k (edge_line s.ends_a.now s.ends_b.now s.weights.now)) all) l.invariant.2
