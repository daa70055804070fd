-- What is said of a created code determines the number and both counts. Assumes nothing.
use Prim.Native.Nat.{ℕ}
use mathlib.Core.Path.{◌≡◌, ap}
use Rattle.std.specs.Prelude.{Ok}
use Rattle.columns_answers.specs.Said.{said, Answered}
use Rattle.columns_answers.proofs.Said.{zero_of, values_of}
use Rattle.codes_calls.specs.declared.CodeCounts.{CodeCounts}
use Rattle.codes_calls.specs.CreateCode.{code_counts, no_code_counts}

pub code_case : {v e q vertices edges : ℕ} → Answered (said no_code_counts (Ok (code_counts v e))) q (code_counts vertices edges) no_code_counts → (q ≡ 0) × (v ≡ vertices) × (e ≡ edges)
code_case a = let z = zero_of a in let n = values_of a z in (z, ap (λ (x : CodeCounts). x.vertices) n, ap (λ (x : CodeCounts). x.edges) n)
