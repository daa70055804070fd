-- `claims::numbers_name_questions` meets its contract: laws of columns_answers. Assumes nothing.
use Rattle.columns_answers.proofs.Said.{no_zero, same_refusal}
use Rattle.claims.proofs.numbers_name_questions.Goals as goal

pub returns : goal.returns
returns c = record { one_question = same_refusal; not_accepted = no_zero }
