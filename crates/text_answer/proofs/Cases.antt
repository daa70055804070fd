-- What is said of an answer determines its case. Assumes nothing.
use Prim.Native.Nat.{ℕ}
use mathlib.Core.Path.{◌≡◌, ap}
use Rattle.std.specs.Prelude.{Result, Ok, Err}
use Rattle.columns.specs.declared.refusal.Refusal.{Refusal}
use Rattle.columns_answers.specs.Said.{said, Answered}
use Rattle.columns_answers.proofs.Said.{values_of, refused-of}

pub text_case : (r : Result ℕ Refusal) {q v z : ℕ} → Answered (said z r) q v z → q ≡ 0 → r ≡ Ok v
text_case (Ok bytes) a e = ap Ok (values_of a e)
text_case (Err n) a e = absurd (refused-of a e)
