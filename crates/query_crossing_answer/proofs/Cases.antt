-- What is said of a reply determines its case. Assumes nothing.
use Prim.Native.Nat.{ℕ}
use mathlib.Core.Path.{◌≡◌, ap}
use Rattle.std.specs.Prelude.{Result, Ok, Err}
use Rattle.columns.specs.declared.refusal.Refusal.{Refusal}
use Rattle.columns.specs.Refusals.{number}
use Rattle.columns_answers.specs.Said.{said, Answered}
use Rattle.columns_answers.proofs.Said.{zero_of, values_of, refused-of}

pub crossed_case : (r : Result ℕ Refusal) {q v z : ℕ} → Answered (said z r) q v z → q ≡ 0 → r ≡ Ok v
crossed_case (Ok weight) a e = ap Ok (values_of a e)
crossed_case (Err r) a e = absurd (refused-of a e)

-- a refusal is that of the question's number
pub record RefusedBy (q : ℕ) (r : Result ℕ Refusal) : Type 0 where
  pub refusal : Refusal
  pub number_is : number refusal ≡ q
  pub is : r ≡ Err refusal

pub refused_case : (r : Result ℕ Refusal) {q v z : ℕ} → Answered (said z r) q v z → (q ≡ 0 → ⊥) → RefusedBy q r
refused_case (Ok weight) a f = absurd (f (zero_of a))
refused_case (Err r) a f = record { refusal = r; number_is = a.number_is; is = λ i. Err r }
