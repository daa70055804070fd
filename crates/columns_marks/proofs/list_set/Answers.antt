-- `columns_marks::list_set` meets its contract: before each block of 8 the numbers below it whose byte is set are listed. Assumes nothing.
use borrow.Author.Rules.{rules}
use mathlib.Core.Path.{◌≡◌, sym, ap, ◌∙◌}
use native.Mathlib.Omega.{arith}
use lib.ListN.{length}
use lib.Seq.{sets, length-sets}
use Rattle.columns.proofs.Columns.{sets_over}
use Rattle.columns_marks.specs.Marks.{listed}
use Rattle.columns_marks.proofs.Listing.{listed-none, listed-few}
use Rattle.columns_marks.proofs.list_set.Goals as goal

pub loop-k-init : goal.loop-k-init
loop-k-init c =
    let s = c.args in
    (search rules, ap length (sym (listed-none s.column.now)), ap (sets s.list.now 0) (sym (listed-none s.column.now)))

pub list_block-count-requires : goal.list_block-count-requires
list_block-count-requires c =
    let s = c.args in
    let at = c.loop-k in
    let same : length at.list ≡ length s.list.now = ap length at.invariant.2 ∙ simp length-sets in
    (omega arith, omega (arith, same), omega arith, at.invariant.1)

pub loop-k-preserved : goal.loop-k-preserved
loop-k-preserved c =
    let s = c.args in
    let at = c.loop-k in
    let block = c.list_block-count.ensures in
    (omega arith, block.0, block.1 s.list.now at.invariant.2)

pub list_between-requires : goal.list_between-requires
list_between-requires c =
    let s = c.args in
    let at = c.loop-k in
    let same : length at.list ≡ length s.list.now = ap length at.invariant.2 ∙ simp length-sets in
    (at.invariant.0, search rules, omega (arith, same), at.invariant.1)

pub shape_of-list : goal.shape_of-list
shape_of-list c =
    let s = c.args in
    let at = c.loop-k in
    ap length (c.list_between.ensures.1 s.list.now at.invariant.2) ∙ simp length-sets

pub returns : goal.returns
returns c =
    let s = c.args in
    let at = c.loop-k in
    let rest = c.list_between.ensures in
    (rest.0, rest.1 s.list.now at.invariant.2 ∙ sets_over s.list.now (listed s.n s.column.now) (omega (arith, listed-few s.column.now s.n)))
