-- `text_answer::codelist` meets its contract: a text column that is too short is refused, else the callees promise the text, whose length fits a u32. Assumes nothing.
use native.Mathlib.Omega.{arith}
use borrow.Author.Tests.{leb-true}
use lib.ListN.{length}
use Rattle.text_answer.specs.Answer.{text_room}
use Rattle.text_answer.proofs.Sizes.{text_few}
use Rattle.text_answer.proofs.Texts.{long_enough_lem}
use Rattle.text_answer.proofs.codelist.Goals as goal

pub write_answer-requires : goal.write_answer-requires
write_answer-requires c =
    let long = leb-true text_room (length c.args.text.now) c.in_ok-require.ensures.ok in
    omega (arith, long, text_few c.read_line.result)

pub overflow_cast-result : goal.overflow_cast-result
overflow_cast-result c = omega (arith, c.write_answer.ensures.next, text_few c.read_line.result)

pub returns : goal.returns
returns c = long_enough_lem c.args.input.now c.args.text.now _ c.read_line.result _ (leb-true text_room (length c.args.text.now) c.in_ok-require.ensures.ok) c.read_line.ensures c.write_answer.ensures
