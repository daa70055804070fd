-- Answers from a call's end, and what they tell, for any values. Assumes nothing.
use Prim.Native.Nat.{ℕ}
use mathlib.Core.Path.{◌≡◌, refl, sym, ap, ◌∙◌}
use mathlib.Core.Bool.{Bool, false≢true, cond}
use native.Mathlib.Omega.{arith}
use lib.Dec.{eqb}
use borrow.Author.Tests.{eq-eqb, ne_eqb}
use Rattle.std.specs.Prelude.{Result, Ok, Err}
use Rattle.columns.specs.declared.refusal.Refusal.{Refusal}
use Rattle.columns.specs.declared.refusal.Refusal.TheVariants as refusal
use Rattle.columns.specs.Refusals.{number, question_of}
use Rattle.columns_answers.specs.Said.{Said, accepts, refuses, said, Answered}

-- no question has the number 0
pub no_zero : (r : Refusal) → number r ≡ 0 → ⊥
no_zero refusal.IllFormedLine e = absurd (omega arith)
no_zero refusal.UnknownKind e = absurd (omega arith)
no_zero refusal.BadDistance e = absurd (omega arith)
no_zero refusal.BadRounds e = absurd (omega arith)
no_zero refusal.TooManyVertices e = absurd (omega arith)
no_zero refusal.ShortColumn e = absurd (omega arith)
no_zero refusal.UnsoundColumns e = absurd (omega arith)
no_zero refusal.BadHalfWeight e = absurd (omega arith)
no_zero refusal.BadProbability e = absurd (omega arith)
no_zero refusal.NoWeight e = absurd (omega arith)
no_zero refusal.OrderLength e = absurd (omega arith)
no_zero refusal.LogNotEmpty e = absurd (omega arith)
no_zero refusal.NumberOutOfRange e = absurd (omega arith)
no_zero refusal.RepeatedVertex e = absurd (omega arith)
no_zero refusal.BadWeight e = absurd (omega arith)
no_zero refusal.SameVertex e = absurd (omega arith)
no_zero refusal.Unreached e = absurd (omega arith)
no_zero refusal.NoCrossing e = absurd (omega arith)

-- the refusal with a number
numbered : ℕ → Refusal
numbered n =
    cond (eqb n 1) refusal.IllFormedLine (cond (eqb n 2) refusal.UnknownKind (cond (eqb n 3) refusal.BadDistance (cond (eqb n 4) refusal.BadRounds
    (cond (eqb n 5) refusal.TooManyVertices (cond (eqb n 6) refusal.ShortColumn (cond (eqb n 7) refusal.UnsoundColumns (cond (eqb n 8) refusal.BadHalfWeight
    (cond (eqb n 9) refusal.BadProbability (cond (eqb n 10) refusal.NoWeight (cond (eqb n 11) refusal.OrderLength (cond (eqb n 12) refusal.LogNotEmpty
    (cond (eqb n 13) refusal.NumberOutOfRange (cond (eqb n 14) refusal.RepeatedVertex (cond (eqb n 15) refusal.BadWeight (cond (eqb n 16) refusal.SameVertex
    (cond (eqb n 17) refusal.Unreached refusal.NoCrossing))))))))))))))))

numbered_back : (r : Refusal) → r ≡ numbered (number r)
unfolding numbered
numbered_back refusal.IllFormedLine = refl
numbered_back refusal.UnknownKind = refl
numbered_back refusal.BadDistance = refl
numbered_back refusal.BadRounds = refl
numbered_back refusal.TooManyVertices = refl
numbered_back refusal.ShortColumn = refl
numbered_back refusal.UnsoundColumns = refl
numbered_back refusal.BadHalfWeight = refl
numbered_back refusal.BadProbability = refl
numbered_back refusal.NoWeight = refl
numbered_back refusal.OrderLength = refl
numbered_back refusal.LogNotEmpty = refl
numbered_back refusal.NumberOutOfRange = refl
numbered_back refusal.RepeatedVertex = refl
numbered_back refusal.BadWeight = refl
numbered_back refusal.SameVertex = refl
numbered_back refusal.Unreached = refl
numbered_back refusal.NoCrossing = refl

-- two refusals have two numbers
pub same_refusal : (r s : Refusal) → number r ≡ number s → r ≡ s
same_refusal r s e = numbered_back r ∙ ap numbered e ∙ sym (numbered_back s)

module _ {Values : Type 0} where
  -- what is said of an answer determines the answer
  pub case_of : {q : ℕ} {v z : Values} (r s : Result Values Refusal) → Answered (said z r) q v z → Answered (said z s) q v z → r ≡ s
  case_of (Ok v) (Ok w) a b = ap Ok (a.values_are ∙ sym b.values_are)
  case_of (Ok v) (Err s) a b = absurd (false≢true (b.accepted_is ∙ sym a.accepted_is))
  case_of (Err r) (Ok w) a b = absurd (false≢true (a.accepted_is ∙ sym b.accepted_is))
  case_of (Err r) (Err s) a b = ap Err (same_refusal r s (a.number_is ∙ sym b.number_is))

  -- the call was accepted, or a number refused it
  pub accepts-of : {q : ℕ} {v z : Values} → q ≡ 0 → Answered (accepts v) q v z
  accepts-of {q} {v} {z} e = record {
    number_is = sym e;
    values_are = ap (λ (b : Bool). cond b v z) (sym (eq-eqb q 0 e));
    accepted_is = sym (eq-eqb q 0 e);
  }

  pub refuses-of : {n q : ℕ} {v z : Values} → n ≡ q → (n ≡ 0 → ⊥) → Answered (refuses n z) q v z
  refuses-of {n} {q} {v} {z} e f =
      let no = ne_eqb q 0 (λ p. f (e ∙ p)) in
      record { number_is = e; values_are = ap (λ (b : Bool). cond b v z) (sym no); accepted_is = sym no }

  -- an accepted case has the number 0 and the values; a refusal has another number
  pub zero_of : {q : ℕ} {w v z : Values} → Answered (accepts w) q v z → q ≡ 0
  zero_of {q} {w} {v} {z} a = sym a.number_is

  pub values_of : {s : Said Values} {q : ℕ} {v z : Values} → Answered s q v z → q ≡ 0 → s.values ≡ v
  values_of {s} {q} {v} {z} a e = a.values_are ∙ ap (λ (b : Bool). cond b v z) (eq-eqb q 0 e)

  pub refused-of : {n q : ℕ} {w v z : Values} → Answered (refuses n w) q v z → q ≡ 0 → ⊥
  refused-of {n} {q} {w} {v} {z} a e = false≢true (a.accepted_is ∙ eq-eqb q 0 e)

  -- a call's answer, accepted or refused by a question
  pub accepted-of : {q : ℕ} {v z : Values} → q ≡ 0 → Answered (said z (Ok v)) q v z
  accepted-of e = accepts-of e

  pub refusal-of : (r : Refusal) {q : ℕ} {v z : Values} → number r ≡ q → Answered (said z (Err r)) q v z
  refusal-of r e = refuses-of e (no_zero r)

-- what a call says of its number is what its questions say
pub question-of : {Values : Type 0} (r : Result Values Refusal) {q : ℕ} {v z : Values} → Answered (said z r) q v z → question_of r ≡ q
question-of (Ok _) a = a.number_is
question-of (Err r) a = a.number_is
