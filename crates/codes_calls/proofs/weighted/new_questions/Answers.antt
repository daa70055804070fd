-- `codes_calls::weighted::new_questions` meets its contract: questions 8 to 10 are asked where 2 to 6 are met. Assumes nothing.
use Rattle.std.specs.Prelude.{Err}
use mathlib.Core.Path.{◌≡◌, sym, ap, ◌∙◌}
use mathlib.Core.Bool.{cond}
use lib.Dec.{eqb}
use borrow.Author.Rules.{rules}
use Rattle.columns.specs.Refusals.{question_of}
use Rattle.columns_answers.proofs.Said.{no_zero}
use Rattle.codes_calls.proofs.WeightedOutcome.{earlier_refuse}
use Rattle.codes_calls.proofs.weighted.new_questions.Goals as goal

pub returns-in_err-create_questions : goal.returns-in_err-create_questions
returns-in_err-create_questions c =
    let r : c.from_residual.result ≡ Err c.in_err-create_questions.field-0.0 = search rules in
    let e = c.in_err-create_questions.ensures in
    ap question_of r ∙ e ∙ sym (earlier_refuse _ _ _ _ (λ z. no_zero c.in_err-create_questions.field-0.0 (e ∙ z)))

pub returns : goal.returns
returns c =
    ap (λ q. cond (eqb q 0) (question_of c.weights_questions.result) q) c.in_ok-create_questions.ensures ∙ c.weights_questions.ensures.after _
