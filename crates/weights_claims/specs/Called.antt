-- Calls of the real functions. `Learnt` is what a caller of a function learns of a call, made from the function's own contract: lifetimes, the arguments
-- as they were passed, the result, and the parameters at exit.
use Rattle.columns.specs.declared.refusal.Refusal.{Refusal}
use Rattle.std.specs.Prelude.{ℕ, List, Float, Result}
use contract.Lifetimes.{Lfts}
use denote.Triple.Clauses.{AtExit}
use borrow.Fn.World.{ArgsD, ResD}
use Rattle.learnt.specs.Learnt.{Reading, Learnt, one_fact}
use Rattle.weights_calls.specs.contracts.weight_of_p as weight_contract
use Rattle.weights_calls.specs.contracts.compute_weights as compute_contract

-- What a caller of each function learns of a call.
abbrev weight_reading : (κs : Lfts 0) (a : ArgsD weight_contract.signature κs) (r : ResD weight_contract.signature κs) (s : AtExit weight_contract.ended κs)
    → Reading (λ w. (weight_contract.clauses w.𝓛 w.𝓜.mem w.𝓡.returns κs a).ensures tt r s)
weight_reading κs a r s = one_fact _

abbrev compute_reading : (κs : Lfts 2) (a : ArgsD compute_contract.signature κs) (r : ResD compute_contract.signature κs) (s : AtExit compute_contract.ended κs)
    → Reading (λ w. (compute_contract.clauses w.𝓛 w.𝓜.mem w.𝓡.returns κs a).ensures tt r s)
compute_reading κs a r s = one_fact _

-- Weights, on the logarithm: a `weight_of_p` that returned: p and the answer.
pub data WeightReturned : (p : Float) → Result Float Refusal → Type 0 where
  weight_returned : (κs : Lfts 0) (a : ArgsD weight_contract.signature κs) (r : Result Float Refusal) (s : AtExit weight_contract.ended κs) → Learnt (weight_reading κs a r s)
      → WeightReturned a.0 r

-- Weights, on half weights: a `compute_weights` that returned: how many edges, p, the column of half weights as it was lent, M, the answer, and the column as the
-- call left it.
pub data WeightsReturned : (edges : ℕ) (p : List Float) (column₀ : List ℕ) (max : ℕ) → Result (Unit {0}) Refusal → (column : List ℕ) → Type 0 where
  weights_returned : (κs : Lfts 2) (a : ArgsD compute_contract.signature κs) (r : Result (Unit {0}) Refusal) (s : AtExit compute_contract.ended κs) → Learnt (compute_reading κs a r s)
      → WeightsReturned a.0 a.1.0.now a.1.1.0.now a.1.1.1.0 r s.1.1.0.now
