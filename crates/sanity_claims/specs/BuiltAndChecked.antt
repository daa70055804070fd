-- Calls of the real functions. `Learnt` is what a caller of a function learns of a call, made from the function's own contract: lifetimes, the arguments
-- as they were passed, the result, and the parameters at exit.
use Rattle.codes_calls.specs.CreateCode.{code_counts}
use Rattle.std.specs.Prelude.{ℕ, List, Ok, Option, Result}
use contract.Lifetimes.{Lfts}
use denote.Triple.Clauses.{AtExit}
use borrow.Fn.World.{ArgsD, ResD}
use Rattle.learnt.specs.Learnt.{Reading, Learnt, one_fact}
use Rattle.codes_calls.specs.Columns.{CodeColumns, code_in}
use Rattle.columns.specs.declared.refusal.Refusal.{Refusal}
use Rattle.sanity_verdicts.specs.declared.Finding.{Finding}
use Rattle.codes_calls.specs.contracts.create.create_code as create_contract
use Rattle.codes_calls.specs.contracts.weighted.new as new_contract
use Rattle.codes_calls.specs.contracts.weighted.new_diagonal as diagonal_contract
use Rattle.sanity_calls.specs.contracts.sanity.sanity_check as sanity_contract

-- What a caller of each function learns of a call.
abbrev create_reading : (κs : Lfts 13) (a : ArgsD create_contract.signature κs) (r : ResD create_contract.signature κs) (s : AtExit create_contract.ended κs)
    → Reading (λ w. (create_contract.clauses w.𝓛 w.𝓜.mem w.𝓡.returns κs a).ensures tt r s)
create_reading κs a r s = one_fact _

abbrev new_reading : (κs : Lfts 13) (a : ArgsD new_contract.signature κs) (r : ResD new_contract.signature κs) (s : AtExit new_contract.ended κs)
    → Reading (λ w. (new_contract.clauses w.𝓛 w.𝓜.mem w.𝓡.returns κs a).ensures tt r s)
new_reading κs a r s = one_fact _

abbrev diagonal_reading : (κs : Lfts 13) (a : ArgsD diagonal_contract.signature κs) (r : ResD diagonal_contract.signature κs) (s : AtExit diagonal_contract.ended κs)
    → Reading (λ w. (diagonal_contract.clauses w.𝓛 w.𝓜.mem w.𝓡.returns κs a).ensures tt r s)
diagonal_reading κs a r s = one_fact _

abbrev sanity_reading : (κs : Lfts 4) (a : ArgsD sanity_contract.signature κs) (r : ResD sanity_contract.signature κs) (s : AtExit sanity_contract.ended κs)
    → Reading (λ w. (sanity_contract.clauses w.𝓛 w.𝓜.mem w.𝓡.returns κs a).ensures tt r s)
sanity_reading κs a r s = one_fact _

-- Six builders; Weights, on the diagonal probability: a code that was built, by any of the three functions that build one:
-- the counts that the call answered, and the columns as it left them.
pub data ColumnsBuilt : (vertices edges : ℕ) → CodeColumns → Type 0 where
  create_built : (κs : Lfts 13) (a : ArgsD create_contract.signature κs) (vertices edges : ℕ) (s : AtExit create_contract.ended κs)
      → Learnt (create_reading κs a (Ok (code_counts vertices edges)) s)
      → ColumnsBuilt vertices edges
      (code_in s.1.1.1.0.now s.1.1.1.1.0.now s.1.1.1.1.1.0.now s.1.1.1.1.1.1.0.now s.1.1.1.1.1.1.1.0.now s.1.1.1.1.1.1.1.1.0.now s.1.1.1.1.1.1.1.1.1.0.now s.1.1.1.1.1.1.1.1.1.1.0.now s.1.1.1.1.1.1.1.1.1.1.1.0.now s.1.1.1.1.1.1.1.1.1.1.1.1.0.now s.1.1.1.1.1.1.1.1.1.1.1.1.1.0.now s.1.1.1.1.1.1.1.1.1.1.1.1.1.1.0.now s.1.1.1.1.1.1.1.1.1.1.1.1.1.1.1.0.now)
  new_built : (κs : Lfts 13) (a : ArgsD new_contract.signature κs) (vertices edges : ℕ) (s : AtExit new_contract.ended κs)
      → Learnt (new_reading κs a (Ok (code_counts vertices edges)) s)
      → ColumnsBuilt vertices edges
      (code_in s.1.1.1.1.1.0.now s.1.1.1.1.1.1.0.now s.1.1.1.1.1.1.1.0.now s.1.1.1.1.1.1.1.1.0.now s.1.1.1.1.1.1.1.1.1.0.now s.1.1.1.1.1.1.1.1.1.1.0.now s.1.1.1.1.1.1.1.1.1.1.1.0.now s.1.1.1.1.1.1.1.1.1.1.1.1.0.now s.1.1.1.1.1.1.1.1.1.1.1.1.1.0.now s.1.1.1.1.1.1.1.1.1.1.1.1.1.1.0.now s.1.1.1.1.1.1.1.1.1.1.1.1.1.1.1.0.now s.1.1.1.1.1.1.1.1.1.1.1.1.1.1.1.1.0.now s.1.1.1.1.1.1.1.1.1.1.1.1.1.1.1.1.1.0.now)
  new_diagonal_built : (κs : Lfts 13) (a : ArgsD diagonal_contract.signature κs) (vertices edges : ℕ) (s : AtExit diagonal_contract.ended κs)
      → Learnt (diagonal_reading κs a (Ok (code_counts vertices edges)) s)
      → ColumnsBuilt vertices edges
      (code_in s.1.1.1.1.1.0.now s.1.1.1.1.1.1.0.now s.1.1.1.1.1.1.1.0.now s.1.1.1.1.1.1.1.1.0.now s.1.1.1.1.1.1.1.1.1.0.now s.1.1.1.1.1.1.1.1.1.1.0.now s.1.1.1.1.1.1.1.1.1.1.1.0.now s.1.1.1.1.1.1.1.1.1.1.1.1.0.now s.1.1.1.1.1.1.1.1.1.1.1.1.1.0.now s.1.1.1.1.1.1.1.1.1.1.1.1.1.1.0.now s.1.1.1.1.1.1.1.1.1.1.1.1.1.1.1.0.now s.1.1.1.1.1.1.1.1.1.1.1.1.1.1.1.1.0.now s.1.1.1.1.1.1.1.1.1.1.1.1.1.1.1.1.1.0.now)

-- Six builders, sanity_check: a call of `sanity_check` that returned: the counts, the ends, the list lengths and the neighbour numbers lent, and the answer.
pub data SanityCalled : (vertices edges : ℕ) (ends_a ends_b list_lengths neighbor_numbers : List ℕ) → Result (Option Finding) Refusal → Type 0 where
  sanity_called : (κs : Lfts 4) (a : ArgsD sanity_contract.signature κs) (r : Result (Option Finding) Refusal) (s : AtExit sanity_contract.ended κs) → Learnt (sanity_reading κs a r s)
      → SanityCalled a.0 a.1.0 a.1.1.0.now a.1.1.1.0.now a.1.1.1.1.0.now a.1.1.1.1.1.0.now r
