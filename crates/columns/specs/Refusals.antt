-- The number of the question that refuses a call.
use Rattle.std.specs.Prelude.{ℕ, Result, Ok, Err}
use Rattle.columns.specs.declared.refusal.Refusal.{Refusal}
use Rattle.columns.specs.declared.refusal.Refusal.TheVariants as refusal

-- Questions at the door, the list: the number of each question.
abbrev pub number : Refusal → ℕ
number refusal.IllFormedLine = 1
number refusal.UnknownKind = 2
number refusal.BadDistance = 3
number refusal.BadRounds = 4
number refusal.TooManyVertices = 5
number refusal.ShortColumn = 6
number refusal.UnsoundColumns = 7
number refusal.BadHalfWeight = 8
number refusal.BadProbability = 9
number refusal.NoWeight = 10
number refusal.OrderLength = 11
number refusal.LogNotEmpty = 12
number refusal.NumberOutOfRange = 13
number refusal.RepeatedVertex = 14
number refusal.BadWeight = 15
number refusal.SameVertex = 16
number refusal.Unreached = 17
number refusal.NoCrossing = 18

-- Questions at the door, sentence 2: the number of the question that refuses, 0 where none does.
abbrev pub question_of : {A : Type 0} → Result A Refusal → ℕ
question_of (Ok v) = 0
question_of (Err r) = number r

-- Questions at the door, sentence 2: likewise, where later questions are asked after those that the answer is of; next is their number.
abbrev pub question_then : {A : Type 0} → Result A Refusal → (next : ℕ) → ℕ
question_then (Ok v) next = next
question_then (Err r) next = number r
