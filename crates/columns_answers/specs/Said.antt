-- What document 01 says of an answer. `said` states it for each case of the `Result` that a call answers; the promises of the calls use it by Answered.
use Rattle.std.specs.Prelude.{ℕ, ◌≡◌, Bool, true, false, cond, eqb, Result, Ok, Err}
use Rattle.columns.specs.declared.refusal.Refusal.{Refusal}
use Rattle.columns.specs.Refusals.{number}

-- Questions at the door, sentence 2; Expected forms by place, last paragraph: the number of an answer and its values, and whether its case is that of an accepted call.
pub record Said (Values : Type 0) : Type 0 where
  pub accepted : Bool
  pub number : ℕ
  pub values : Values

-- Expected forms by place, last paragraph: of an accepted call, number 0 and its values.
abbrev pub accepts : {Values : Type 0} → Values → Said Values
accepts v = record { accepted = true; number = 0; values = v }

-- Questions at the door, sentence 2: of a refused call, the number of the question; every other field is 0.
abbrev pub refuses : {Values : Type 0} → ℕ → (zeros : Values) → Said Values
refuses number zeros = record { accepted = false; number = number; values = zeros }

-- Expected forms by place, last paragraph: document 01's number and values for each case of a call's `Result`; every value is 0 where the call was refused.
abbrev pub said : {Values : Type 0} → (zeros : Values) → Result Values Refusal → Said Values
said zeros (Ok v) = accepts v
said zeros (Err r) = refuses (number r) zeros

-- Questions at the door, sentence 2: a call's answer, where q is the number of the first question that is not met, 0 where all are met. The number is q; the values are
-- v where q is 0, and else 0; the case is that of an accepted call exactly where q is 0, so that no refusal has the number 0.
pub record Answered {Values : Type 0} (answer : Said Values) (q : ℕ) (v zeros : Values) : Type 0 where
  pub number_is : answer.number ≡ q
  pub values_are : answer.values ≡ cond (eqb q 0) v zeros
  pub accepted_is : answer.accepted ≡ eqb q 0
