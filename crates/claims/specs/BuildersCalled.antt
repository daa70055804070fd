-- Calls of the three functions that build a code. `Learnt` is what a caller of a function learns of a call, made from the function's own contract: lifetimes,
-- the arguments as they were passed, the result, and the parameters at exit. The columns lent are any.
use Rattle.codes_calls.specs.declared.CodeCounts.{CodeCounts}
use Rattle.codes_calls.specs.CreateCode.{code_counts}
use Rattle.columns.specs.declared.refusal.Refusal.{Refusal}
use Rattle.std.specs.Prelude.{ℕ, List, Float, Option, Result, Ok}
use contract.Lifetimes.{Lfts}
use denote.Triple.Clauses.{AtExit}
use borrow.Fn.World.{ArgsD, ResD}
use Rattle.learnt.specs.Learnt.{Reading, Learnt, one_fact}
use Rattle.codes_calls.specs.Columns.{CodeColumns, code_in}
use Rattle.codes_calls.specs.contracts.create.create_code as create_contract
use Rattle.codes_calls.specs.contracts.weighted.new as new_contract
use Rattle.codes_calls.specs.contracts.weighted.new_diagonal as diagonal_contract

-- What a caller of each function learns of a call.
abbrev create_reading : (κs : Lfts 13) (a : ArgsD create_contract.signature κs) (r : ResD create_contract.signature κs) (s : AtExit create_contract.ended κs)
    → Reading (λ w. (create_contract.clauses w.𝓛 w.𝓜.mem w.𝓡.returns κs a).ensures tt r s)
create_reading κs a r s = one_fact _

abbrev new_reading : (κs : Lfts 13) (a : ArgsD new_contract.signature κs) (r : ResD new_contract.signature κs) (s : AtExit new_contract.ended κs)
    → Reading (λ w. (new_contract.clauses w.𝓛 w.𝓜.mem w.𝓡.returns κs a).ensures tt r s)
new_reading κs a r s = one_fact _

abbrev diagonal_reading : (κs : Lfts 13) (a : ArgsD diagonal_contract.signature κs) (r : ResD diagonal_contract.signature κs) (s : AtExit diagonal_contract.ended κs)
    → Reading (λ w. (diagonal_contract.clauses w.𝓛 w.𝓜.mem w.𝓡.returns κs a).ensures tt r s)
diagonal_reading κs a r s = one_fact _

-- Six builders: a `create_code` that returned: kind, d, rounds, the columns before and after, and the answer.
pub data CreateReturned : (kind d rounds : ℕ) (c₀ c : CodeColumns) → Result CodeCounts Refusal → Type 0 where
  create_returned : (κs : Lfts 13) (a : ArgsD create_contract.signature κs) (r : Result CodeCounts Refusal) (s : AtExit create_contract.ended κs) → Learnt (create_reading κs a r s)
      → CreateReturned a.0 a.1.0 a.1.1.0
      (code_in a.1.1.1.0.now a.1.1.1.1.0.now a.1.1.1.1.1.0.now a.1.1.1.1.1.1.0.now a.1.1.1.1.1.1.1.0.now a.1.1.1.1.1.1.1.1.0.now a.1.1.1.1.1.1.1.1.1.0.now a.1.1.1.1.1.1.1.1.1.1.0.now a.1.1.1.1.1.1.1.1.1.1.1.0.now a.1.1.1.1.1.1.1.1.1.1.1.1.0.now a.1.1.1.1.1.1.1.1.1.1.1.1.1.0.now a.1.1.1.1.1.1.1.1.1.1.1.1.1.1.0.now a.1.1.1.1.1.1.1.1.1.1.1.1.1.1.1.0.now)
      (code_in s.1.1.1.0.now s.1.1.1.1.0.now s.1.1.1.1.1.0.now s.1.1.1.1.1.1.0.now s.1.1.1.1.1.1.1.0.now s.1.1.1.1.1.1.1.1.0.now s.1.1.1.1.1.1.1.1.1.0.now s.1.1.1.1.1.1.1.1.1.1.0.now s.1.1.1.1.1.1.1.1.1.1.1.0.now s.1.1.1.1.1.1.1.1.1.1.1.1.0.now s.1.1.1.1.1.1.1.1.1.1.1.1.1.0.now s.1.1.1.1.1.1.1.1.1.1.1.1.1.1.0.now s.1.1.1.1.1.1.1.1.1.1.1.1.1.1.1.0.now)
      r

-- Weights, on the diagonal probability, sentence 2: a `new` that returned: kind, d, rounds, p, M, the columns before and after, and the answer.
pub data NewReturned : (kind d rounds : ℕ) (p : Float) (max : ℕ) (c₀ c : CodeColumns) → Result CodeCounts Refusal → Type 0 where
  new_returned : (κs : Lfts 13) (a : ArgsD new_contract.signature κs) (r : Result CodeCounts Refusal) (s : AtExit new_contract.ended κs) → Learnt (new_reading κs a r s)
      → NewReturned a.0 a.1.0 a.1.1.0 a.1.1.1.0 a.1.1.1.1.0
      (code_in a.1.1.1.1.1.0.now a.1.1.1.1.1.1.0.now a.1.1.1.1.1.1.1.0.now a.1.1.1.1.1.1.1.1.0.now a.1.1.1.1.1.1.1.1.1.0.now a.1.1.1.1.1.1.1.1.1.1.0.now a.1.1.1.1.1.1.1.1.1.1.1.0.now a.1.1.1.1.1.1.1.1.1.1.1.1.0.now a.1.1.1.1.1.1.1.1.1.1.1.1.1.0.now a.1.1.1.1.1.1.1.1.1.1.1.1.1.1.0.now a.1.1.1.1.1.1.1.1.1.1.1.1.1.1.1.0.now a.1.1.1.1.1.1.1.1.1.1.1.1.1.1.1.1.0.now a.1.1.1.1.1.1.1.1.1.1.1.1.1.1.1.1.1.0.now)
      (code_in s.1.1.1.1.1.0.now s.1.1.1.1.1.1.0.now s.1.1.1.1.1.1.1.0.now s.1.1.1.1.1.1.1.1.0.now s.1.1.1.1.1.1.1.1.1.0.now s.1.1.1.1.1.1.1.1.1.1.0.now s.1.1.1.1.1.1.1.1.1.1.1.0.now s.1.1.1.1.1.1.1.1.1.1.1.1.0.now s.1.1.1.1.1.1.1.1.1.1.1.1.1.0.now s.1.1.1.1.1.1.1.1.1.1.1.1.1.1.0.now s.1.1.1.1.1.1.1.1.1.1.1.1.1.1.1.0.now s.1.1.1.1.1.1.1.1.1.1.1.1.1.1.1.1.0.now s.1.1.1.1.1.1.1.1.1.1.1.1.1.1.1.1.1.0.now)
      r

-- Weights, on the diagonal probability, sentence 1: a `new_diagonal` that returned: d, rounds, p, the diagonal probability, M, the columns before and after, and the answer.
pub data NewDiagonalReturned : (d rounds : ℕ) (p : Float) (diagonal : Option Float) (max : ℕ) (c₀ c : CodeColumns) → Result CodeCounts Refusal → Type 0 where
  new_diagonal_returned : (κs : Lfts 13) (a : ArgsD diagonal_contract.signature κs) (r : Result CodeCounts Refusal) (s : AtExit diagonal_contract.ended κs) → Learnt (diagonal_reading κs a r s)
      → NewDiagonalReturned a.0 a.1.0 a.1.1.0 a.1.1.1.1.0 a.1.1.1.0
      (code_in a.1.1.1.1.1.0.now a.1.1.1.1.1.1.0.now a.1.1.1.1.1.1.1.0.now a.1.1.1.1.1.1.1.1.0.now a.1.1.1.1.1.1.1.1.1.0.now a.1.1.1.1.1.1.1.1.1.1.0.now a.1.1.1.1.1.1.1.1.1.1.1.0.now a.1.1.1.1.1.1.1.1.1.1.1.1.0.now a.1.1.1.1.1.1.1.1.1.1.1.1.1.0.now a.1.1.1.1.1.1.1.1.1.1.1.1.1.1.0.now a.1.1.1.1.1.1.1.1.1.1.1.1.1.1.1.0.now a.1.1.1.1.1.1.1.1.1.1.1.1.1.1.1.1.0.now a.1.1.1.1.1.1.1.1.1.1.1.1.1.1.1.1.1.0.now)
      (code_in s.1.1.1.1.1.0.now s.1.1.1.1.1.1.0.now s.1.1.1.1.1.1.1.0.now s.1.1.1.1.1.1.1.1.0.now s.1.1.1.1.1.1.1.1.1.0.now s.1.1.1.1.1.1.1.1.1.1.0.now s.1.1.1.1.1.1.1.1.1.1.1.0.now s.1.1.1.1.1.1.1.1.1.1.1.1.0.now s.1.1.1.1.1.1.1.1.1.1.1.1.1.0.now s.1.1.1.1.1.1.1.1.1.1.1.1.1.1.0.now s.1.1.1.1.1.1.1.1.1.1.1.1.1.1.1.0.now s.1.1.1.1.1.1.1.1.1.1.1.1.1.1.1.1.0.now s.1.1.1.1.1.1.1.1.1.1.1.1.1.1.1.1.1.0.now)
      r

-- Six builders; Engine, Tally, sentence 11: a code that was built, by any of the three functions
-- that build one: the counts, the ends and the boundary bytes in the columns as the call left them.
pub data CodeBuilt : (kind d rounds vertices edges : ℕ) (ends_a ends_b boundary : List ℕ) → Type 0 where
  create_called : {kind d rounds : ℕ} {c₀ c : CodeColumns} (vertices edges : ℕ) → CreateReturned kind d rounds c₀ c (Ok (code_counts vertices edges))
      → CodeBuilt kind d rounds vertices edges c.ends_a c.ends_b c.boundary
  new_called : {kind d rounds : ℕ} {p : Float} {max : ℕ} {c₀ c : CodeColumns} (vertices edges : ℕ) → NewReturned kind d rounds p max c₀ c (Ok (code_counts vertices edges))
      → CodeBuilt kind d rounds vertices edges c.ends_a c.ends_b c.boundary
  new_diagonal_called : {d rounds : ℕ} {p : Float} {diagonal : Option Float} {max : ℕ} {c₀ c : CodeColumns} (vertices edges : ℕ)
      → NewDiagonalReturned d rounds p diagonal max c₀ c (Ok (code_counts vertices edges)) → CodeBuilt 4 d rounds vertices edges c.ends_a c.ends_b c.boundary
