-- What a crossing finds in the state that a search from the left settled in.
use Rattle.std.specs.Prelude.{ℕ, ◌≡◌, ◌&&◌, List, get_or, eqb, ℤ, Result}
use Rattle.std.proofs.Math.Option.{Option}
use Rattle.columns.specs.declared.refusal.Refusal.{Refusal}
use Rattle.columns.specs.Lists.{after}
use Rattle.columns.specs.Questions.{ask}
use Rattle.columns_answers.specs.Said.{said, Answered}
use Rattle.engine_walks.specs.Settling.{State, weight_at, first_least}
use Rattle.engine_walks.specs.Answers.{taken, weight_of}
use Rattle.query_crossing_answer.specs.Crossing.{is_joined, weight_found}

-- Engine, Crossing, sentence 1: the least weight of a right vertex, of n, that was taken.
abbrev pub crossing_in : State → (boundary : List ℕ) (n : ℕ) → Option ℕ
crossing_in s boundary n = weight_of s (first_least (λ u. eqb (get_or boundary u 0) 2 && taken s u) (weight_at s) n)

-- Engine, Crossing, sentences 1 and 2; Questions at the door, 18: the answer, and the weight column, from the crossing weight if there is one.
pub record FoundIn (found : Option ℕ) (column : List ℤ) (answer : Result ℕ Refusal) (weights₀ weights : List ℤ) : Type 0 where
  pub answers : Answered (said 0 answer) (ask (is_joined found) 18 0) (weight_found found) 0
  pub weights_after : weights ≡ after (ask (is_joined found) 18 0) column weights₀
