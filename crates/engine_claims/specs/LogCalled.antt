-- Loads and resets that were accepted. `Learnt` is what a caller of a function learns of a call, made from the function's own contract: lifetimes, the
-- arguments as they were passed, the result, and the parameters at exit. The columns lent are any: no call needs to have made them.
use Rattle.std.specs.Prelude.{ℕ, List, Ok}
use contract.Lifetimes.{Lfts}
use denote.Triple.Clauses.{AtExit}
use borrow.Fn.World.{ArgsD, ResD}
use Rattle.learnt.specs.Learnt.{Reading, Learnt, one_fact}
use Rattle.engine_log.specs.Load.{erased, given}
use Rattle.engine_columns.specs.declared.EngineCounts.{EngineCounts}
use Rattle.engine_columns.specs.Records.{Engine, engine_in}
use Rattle.engine_calls.specs.contracts.load_erasures as erasures_contract
use Rattle.engine_calls.specs.contracts.load_dynamic_weights as weights_contract
use Rattle.engine_calls.specs.contracts.reset as reset_contract

-- What a caller of each function learns of a call.
abbrev erasures_reading : (κs : Lfts 7) (a : ArgsD erasures_contract.signature κs) (r : ResD erasures_contract.signature κs) (s : AtExit erasures_contract.ended κs)
    → Reading (λ w. (erasures_contract.clauses w.𝓛 w.𝓜.mem w.𝓡.returns κs a).ensures tt r s)
erasures_reading κs a r s = one_fact _

abbrev weights_reading : (κs : Lfts 8) (a : ArgsD weights_contract.signature κs) (r : ResD weights_contract.signature κs) (s : AtExit weights_contract.ended κs)
    → Reading (λ w. (weights_contract.clauses w.𝓛 w.𝓜.mem w.𝓡.returns κs a).ensures tt r s)
weights_reading κs a r s = one_fact _

abbrev reset_reading : (κs : Lfts 6) (a : ArgsD reset_contract.signature κs) (r : ResD reset_contract.signature κs) (s : AtExit reset_contract.ended κs)
    → Reading (λ w. (reset_contract.clauses w.𝓛 w.𝓜.mem w.𝓡.returns κs a).ensures tt r s)
reset_reading κs a r s = one_fact _

-- Engine, Load: an accepted load: its list of edges, the weight that each place of the list gives (erasure: weight 0), and the engine's columns before and after.
pub data LoadAccepted : (es : List ℕ) (x : ℕ → ℕ) (e₀ e : Engine) → Type 0 where
  erasures_accepted : (κs : Lfts 7) (a : ArgsD erasures_contract.signature κs) (c : EngineCounts) (s : AtExit erasures_contract.ended κs)
      → Learnt (erasures_reading κs a (Ok c) s)
      → LoadAccepted a.1.1.1.1.1.1.1.0.now erased
      (engine_in a.0 a.1.0.now a.1.1.0.now a.1.1.1.0.now a.1.1.1.1.0.now a.1.1.1.1.1.0.now a.1.1.1.1.1.1.0.now)
      (engine_in c a.1.0.now a.1.1.0.now s.1.1.1.0.now a.1.1.1.1.0.now s.1.1.1.1.1.0.now s.1.1.1.1.1.1.0.now)
  weights_accepted : (κs : Lfts 8) (a : ArgsD weights_contract.signature κs) (c : EngineCounts) (s : AtExit weights_contract.ended κs)
      → Learnt (weights_reading κs a (Ok c) s)
      → LoadAccepted a.1.1.1.1.1.1.1.0.now (given a.1.1.1.1.1.1.1.1.0.now)
      (engine_in a.0 a.1.0.now a.1.1.0.now a.1.1.1.0.now a.1.1.1.1.0.now a.1.1.1.1.1.0.now a.1.1.1.1.1.1.0.now)
      (engine_in c a.1.0.now a.1.1.0.now s.1.1.1.0.now a.1.1.1.1.0.now s.1.1.1.1.1.0.now s.1.1.1.1.1.1.0.now)

-- Engine, Reset: an accepted reset: the engine's columns before and after.
pub data ResetAccepted : (e₀ e : Engine) → Type 0 where
  reset_accepted : (κs : Lfts 6) (a : ArgsD reset_contract.signature κs) (c : EngineCounts) (s : AtExit reset_contract.ended κs)
      → Learnt (reset_reading κs a (Ok c) s)
      → ResetAccepted
      (engine_in a.0 a.1.0.now a.1.1.0.now a.1.1.1.0.now a.1.1.1.1.0.now a.1.1.1.1.1.0.now a.1.1.1.1.1.1.0.now)
      (engine_in c a.1.0.now a.1.1.0.now s.1.1.1.0.now a.1.1.1.1.0.now a.1.1.1.1.1.0.now a.1.1.1.1.1.1.0.now)
