-- What a refusal's number tells.
use Rattle.std.specs.Prelude.{◌≡◌, ◌≢◌}
use Rattle.columns.specs.declared.refusal.Refusal.{Refusal}
use Rattle.columns.specs.Refusals.{number}

-- Questions at the door, sentence 2: the number of a refused call names one question, and is not the number of an accepted call.
pub record NumbersNameQuestions : Type 0 where
  pub one_question : (r s : Refusal) → number r ≡ number s → r ≡ s
  pub not_accepted : (r : Refusal) → number r ≢ 0
