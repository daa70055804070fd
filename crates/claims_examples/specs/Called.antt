-- Calls of `get_initializer` that returned. `Learnt` is what a caller of a function learns of a call, made from the function's own contract: lifetimes,
-- the arguments as they were passed, the result, and the parameters at exit. The columns lent are any.
use Rattle.std.specs.Prelude.{ℕ, Result}
use contract.Lifetimes.{Lfts}
use denote.Triple.Clauses.{AtExit}
use borrow.Fn.World.{ArgsD, ResD}
use Rattle.learnt.specs.Learnt.{Reading, Learnt, one_fact}
use Rattle.columns.specs.declared.refusal.Refusal.{Refusal}
use Rattle.access_calls.specs.Calls.{Code, code, Initializer, initializer}
use Rattle.access_calls.specs.contracts.get_initializer as initializer_contract

-- What a caller learns of a call.
abbrev initializer_reading : (κs : Lfts 8) (a : ArgsD initializer_contract.signature κs) (r : ResD initializer_contract.signature κs) (s : AtExit initializer_contract.ended κs)
    → Reading (λ w. (initializer_contract.clauses w.𝓛 w.𝓜.mem w.𝓡.returns κs a).ensures tt r s)
initializer_reading κs a r s = one_fact _

-- Weights, get_initializer: a `get_initializer` that returned: the counts, the columns that it reads, those that it writes before and after, and the answer.
pub data InitializerReturned : (vertices edges : ℕ) → Code → (to₀ to : Initializer) → Result ℕ Refusal → Type 0 where
  initializer_returned : (κs : Lfts 8) (a : ArgsD initializer_contract.signature κs) (r : Result ℕ Refusal) (s : AtExit initializer_contract.ended κs) → Learnt (initializer_reading κs a r s)
      → InitializerReturned a.0 a.1.0
      (code a.1.1.0.now a.1.1.1.0.now a.1.1.1.1.0.now a.1.1.1.1.1.0.now)
      (initializer a.1.1.1.1.1.1.0.now a.1.1.1.1.1.1.1.0.now a.1.1.1.1.1.1.1.1.0.now a.1.1.1.1.1.1.1.1.1.0.now)
      (initializer s.1.1.1.1.1.1.0.now s.1.1.1.1.1.1.1.0.now s.1.1.1.1.1.1.1.1.0.now s.1.1.1.1.1.1.1.1.1.0.now)
      r
