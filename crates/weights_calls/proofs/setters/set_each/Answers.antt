-- `weights_calls::setters::set_each` meets its contract: the column is long enough. Assumes nothing.
use mathlib.Core.Path.{sym, ◌∙◌}
use native.Mathlib.Omega.{arith}
use lib.Dec.{leb}
use lib.ListN.{length, replicate, length-replicate}
use borrow.Author.Tests.{leb-true}
use Rattle.columns.proofs.Columns.{after-accepted, sets_over}
use Rattle.columns.proofs.Refusals.{met}
use Rattle.columns_answers.proofs.Said.{accepted-of}
use Rattle.weights_calls.proofs.setters.set_each.Goals as goal

pub returns : goal.returns
returns c =
    let s = c.args in
    let vs = replicate s.edge_num s.value in
    let zero = sym c.in_ok-set_questions.ensures in
    let long = leb-true s.edge_num (length s.column.now) (met (leb s.edge_num (length s.column.now)) 5 _ zero) in
    record {
      answers = accepted-of zero;
      column_after = c.fill.ensures ∙ sets_over s.column.now vs (omega (arith, length-replicate s.edge_num s.value)) ∙ sym (after-accepted _ vs s.column.now zero);
    }
