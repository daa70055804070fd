-- Calls of the getters, and of the setters that were accepted. `Learnt` is what a caller of a function learns of a call, made from the function's own contract: lifetimes, the
-- arguments as they were passed, the result, and the parameters at exit. The columns lent are any: no call needs to have made them.
use Rattle.std.specs.Prelude.{ℕ, List, Result, Ok}
use contract.Lifetimes.{Lfts}
use denote.Triple.Clauses.{AtExit}
use borrow.Fn.World.{ArgsD, ResD}
use Rattle.learnt.specs.Learnt.{Reading, Learnt, one_fact}
use Rattle.columns.specs.declared.refusal.Refusal.{Refusal}
use Rattle.columns_answers.specs.declared.SyndromeLengths.{SyndromeLengths}
use Rattle.access_calls.specs.Calls.{Syndrome, syndrome}
use Rattle.access_calls.specs.contracts.get_defect_vertices as get_defects_contract
use Rattle.access_calls.specs.contracts.get_erasures as get_erasures_contract
use Rattle.access_calls.specs.contracts.get_syndrome as get_syndrome_contract
use Rattle.access_calls.specs.contracts.get_initializer as initializer_contract
use Rattle.access_calls.specs.contracts.set_defect_vertices as set_defects_contract
use Rattle.access_calls.specs.contracts.set_erasures as set_erasures_contract
use Rattle.access_calls.specs.contracts.set_syndrome as set_syndrome_contract

-- What a caller of each function learns of a call.
abbrev get_defects_reading : (κs : Lfts 2) (a : ArgsD get_defects_contract.signature κs) (r : ResD get_defects_contract.signature κs) (s : AtExit get_defects_contract.ended κs)
    → Reading (λ w. (get_defects_contract.clauses w.𝓛 w.𝓜.mem w.𝓡.returns κs a).ensures tt r s)
get_defects_reading κs a r s = one_fact _

abbrev get_erasures_reading : (κs : Lfts 2) (a : ArgsD get_erasures_contract.signature κs) (r : ResD get_erasures_contract.signature κs) (s : AtExit get_erasures_contract.ended κs)
    → Reading (λ w. (get_erasures_contract.clauses w.𝓛 w.𝓜.mem w.𝓡.returns κs a).ensures tt r s)
get_erasures_reading κs a r s = one_fact _

abbrev get_syndrome_reading : (κs : Lfts 4) (a : ArgsD get_syndrome_contract.signature κs) (r : ResD get_syndrome_contract.signature κs) (s : AtExit get_syndrome_contract.ended κs)
    → Reading (λ w. (get_syndrome_contract.clauses w.𝓛 w.𝓜.mem w.𝓡.returns κs a).ensures tt r s)
get_syndrome_reading κs a r s = one_fact _

abbrev initializer_reading : (κs : Lfts 8) (a : ArgsD initializer_contract.signature κs) (r : ResD initializer_contract.signature κs) (s : AtExit initializer_contract.ended κs)
    → Reading (λ w. (initializer_contract.clauses w.𝓛 w.𝓜.mem w.𝓡.returns κs a).ensures tt r s)
initializer_reading κs a r s = one_fact _

abbrev set_defects_reading : (κs : Lfts 2) (a : ArgsD set_defects_contract.signature κs) (r : ResD set_defects_contract.signature κs) (s : AtExit set_defects_contract.ended κs)
    → Reading (λ w. (set_defects_contract.clauses w.𝓛 w.𝓜.mem w.𝓡.returns κs a).ensures tt r s)
set_defects_reading κs a r s = one_fact _

abbrev set_erasures_reading : (κs : Lfts 2) (a : ArgsD set_erasures_contract.signature κs) (r : ResD set_erasures_contract.signature κs) (s : AtExit set_erasures_contract.ended κs)
    → Reading (λ w. (set_erasures_contract.clauses w.𝓛 w.𝓜.mem w.𝓡.returns κs a).ensures tt r s)
set_erasures_reading κs a r s = one_fact _

abbrev set_syndrome_reading : (κs : Lfts 4) (a : ArgsD set_syndrome_contract.signature κs) (r : ResD set_syndrome_contract.signature κs) (s : AtExit set_syndrome_contract.ended κs)
    → Reading (λ w. (set_syndrome_contract.clauses w.𝓛 w.𝓜.mem w.𝓡.returns κs a).ensures tt r s)
set_syndrome_reading κs a r s = one_fact _

-- ---- getters: the counts, the bytes lent, the list's column before and after, and the answer

-- Taken over, the trait `ExampleCode`: a call of `get_defect_vertices`.
pub data DefectsGot : (v : ℕ) (defect list₀ list : List ℕ) (answer : Result ℕ Refusal) → Type 0 where
  defects_got : (κs : Lfts 2) (a : ArgsD get_defects_contract.signature κs) (r : Result ℕ Refusal) (s : AtExit get_defects_contract.ended κs)
      → Learnt (get_defects_reading κs a r s)
      → DefectsGot a.0 a.1.0.now a.1.1.0.now s.1.1.0.now r

-- Taken over, the trait `ExampleCode`: a call of `get_erasures`.
pub data ErasuresGot : (e : ℕ) (erasure list₀ list : List ℕ) (answer : Result ℕ Refusal) → Type 0 where
  erasures_got : (κs : Lfts 2) (a : ArgsD get_erasures_contract.signature κs) (r : Result ℕ Refusal) (s : AtExit get_erasures_contract.ended κs)
      → Learnt (get_erasures_reading κs a r s)
      → ErasuresGot a.0 a.1.0.now a.1.1.0.now s.1.1.0.now r

-- Taken over, the trait `ExampleCode`: a call of `get_syndrome`.
pub data SyndromeGot : (v e : ℕ) (column lists₀ lists : Syndrome) (answer : Result SyndromeLengths Refusal) → Type 0 where
  syndrome_got : (κs : Lfts 4) (a : ArgsD get_syndrome_contract.signature κs) (r : Result SyndromeLengths Refusal) (s : AtExit get_syndrome_contract.ended κs)
      → Learnt (get_syndrome_reading κs a r s)
      → SyndromeGot a.0 a.1.0 (syndrome a.1.1.0.now a.1.1.1.0.now)
      (syndrome a.1.1.1.1.0.now a.1.1.1.1.1.0.now) (syndrome s.1.1.1.1.0.now s.1.1.1.1.1.0.now) r

-- Weights, get_initializer: a call of `get_initializer`: the boundary bytes lent, and the list of virtual vertices.
pub data InitializerGot : (v : ℕ) (boundary list₀ list : List ℕ) (answer : Result ℕ Refusal) → Type 0 where
  initializer_got : (κs : Lfts 8) (a : ArgsD initializer_contract.signature κs) (r : Result ℕ Refusal) (s : AtExit initializer_contract.ended κs)
      → Learnt (initializer_reading κs a r s)
      → InitializerGot a.0 a.1.1.1.1.1.0.now a.1.1.1.1.1.1.1.1.1.0.now s.1.1.1.1.1.1.1.1.1.0.now r

-- ---- setters: the counts, the lists handed over, and the bytes as the call left them

-- Taken over, the trait `ExampleCode`: an accepted `set_defect_vertices`.
pub data DefectsSet : (v : ℕ) (list defect : List ℕ) → Type 0 where
  defects_set : (κs : Lfts 2) (a : ArgsD set_defects_contract.signature κs) (s : AtExit set_defects_contract.ended κs)
      → Learnt (set_defects_reading κs a (Ok tt) s)
      → DefectsSet a.0 a.1.0.now s.1.1.0.now

-- Taken over, the trait `ExampleCode`: an accepted `set_erasures`.
pub data ErasuresSet : (e : ℕ) (list erasure : List ℕ) → Type 0 where
  erasures_set : (κs : Lfts 2) (a : ArgsD set_erasures_contract.signature κs) (s : AtExit set_erasures_contract.ended κs)
      → Learnt (set_erasures_reading κs a (Ok tt) s)
      → ErasuresSet a.0 a.1.0.now s.1.1.0.now

-- Taken over, the trait `ExampleCode`: an accepted `set_syndrome`.
pub data SyndromeSet : (v e : ℕ) (lists column : Syndrome) → Type 0 where
  syndrome_set : (κs : Lfts 4) (a : ArgsD set_syndrome_contract.signature κs) (s : AtExit set_syndrome_contract.ended κs)
      → Learnt (set_syndrome_reading κs a (Ok tt) s)
      → SyndromeSet a.0 a.1.0 (syndrome a.1.1.0.now a.1.1.1.0.now) (syndrome s.1.1.1.1.0.now s.1.1.1.1.1.0.now)
