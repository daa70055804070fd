-- `columns_marks::set_marks` meets its contract. Invariant: the bytes that the first i numbers name are set. Assumes nothing.
use mathlib.Core.Path.{◌∙◌, subst}
use mathlib.Core.List.{List}
use Prim.Native.Nat.{ℕ}
use native.Mathlib.Omega.{arith}
use lib.Seq.{take_all}
use Rattle.columns_marks.proofs.Marking.{Marked, marked_none, marked_start, marked_next, marked_from, marked_all}
use Rattle.columns_marks.proofs.set_marks.Goals as goal

pub loop-i-init : goal.loop-i-init
loop-i-init c =
    let s = c in
    (omega arith, marked_start (marked_none s.args.n s.args.column.now s.requires.n_in_bounds c.fill.ensures))

pub mark-requires : goal.mark-requires
mark-requires c =
    let s = c in
    let l = c.loop-i in
    let f = marked_none s.args.n s.args.column.now s.requires.n_in_bounds c.fill.ensures in
    omega (arith, l.invariant.1.len, f.len, s.requires.n_in_bounds, s.requires.by_index l.i c.loop-i-test.true)

pub loop-i-preserved : goal.loop-i-preserved
loop-i-preserved c =
    let s = c in
    let l = c.loop-i in
    let f = marked_none s.args.n s.args.column.now s.requires.n_in_bounds c.fill.ensures in
    (omega arith, marked_next s.args.n _ (omega (arith, f.len, s.requires.n_in_bounds)) s.args.list.now l.i (omega arith) (s.requires.by_index l.i (omega arith)) l.invariant.1 c.mark.ensures)

pub shape_of-column : goal.shape_of-column
shape_of-column c =
    let s = c in
    let f = marked_none s.args.n s.args.column.now s.requires.n_in_bounds c.fill.ensures in
    c.loop-i.invariant.1.len ∙ f.len

pub returns : goal.returns
returns c =
    let s = c in
    let l = c.loop-i in
    let f = marked_none s.args.n s.args.column.now s.requires.n_in_bounds c.fill.ensures in
    let m = marked_from f l.invariant.1 in
    marked_all s.args.n s.args.column.now s.requires.n_in_bounds s.args.list.now (subst (λ (xs : List ℕ). Marked s.args.n xs s.args.column.now l.column) (take_all l.i s.args.list.now (omega arith)) m)
