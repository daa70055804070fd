-- `columns_marks::list_block` meets its contract: where the eight bytes are 0 no number is added, else `list_between` promises the numbers of the block. Assumes nothing.
use borrow.Author.Rules.{rules}
use mathlib.Core.Path.{sym, ap, ◌∙◌}
use lib.ListN.{length}
use lib.Seq.{sets}
use Rattle.columns_marks.proofs.list_block.Goals as goal

pub returns-then-all_zero : goal.returns-then-all_zero
returns-then-all_zero c =
    let same = c.all_zero.ensures c.if-all_zero.true in
    (search rules ∙ ap length (sym same), λ l e. e ∙ ap (sets l 0) (sym same))
