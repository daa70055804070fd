-- Calls of the engine's functions. `Learnt` is what a caller of a function learns of a call, made from the function's own contract: lifetimes, the arguments
-- as they were passed, the result, and the parameters at exit. A parameter that is only read is at exit as it was passed.
use Rattle.std.specs.Prelude.{ℕ, List, [], ◌∷◌, ℤ, Result, Ok}
use contract.Lifetimes.{Lfts}
use denote.Triple.Clauses.{AtExit}
use borrow.Fn.World.{ArgsD, ResD}
use Rattle.learnt.specs.Learnt.{Reading, Learnt, one_fact}
use Rattle.columns.specs.declared.refusal.Refusal.{Refusal}
use Rattle.columns.specs.Refusals.{question_of}
use Rattle.engine_columns.specs.declared.EngineCounts.{EngineCounts}
use Rattle.engine_columns.specs.Records.{Engine, engine, kept, engine_in}
use Rattle.engine_columns.specs.Calls.{Call, load_erasures, load_weights, reset}
use Rattle.engine_columns.specs.Open.{GraphColumns, graph_columns}
use Rattle.engine_tally.specs.Tally.{lengths_of}
use Rattle.query_crossing_answer.specs.Crossing.{reply_number}
use Rattle.claims.specs.Listed.{OwnLengths, own_lengths, ListedCall, modifies, crosses}
use Rattle.claims.specs.QueriesCalled.{CrossingReturned}
use Rattle.engine_calls.specs.contracts.open as open_contract
use Rattle.engine_calls.specs.contracts.load_erasures as erasures_contract
use Rattle.engine_calls.specs.contracts.load_dynamic_weights as weights_contract
use Rattle.engine_calls.specs.contracts.reset as reset_contract
use Rattle.query_questions.specs.Scratch.{ScratchColumns}

-- What a caller of each function learns of a call.
abbrev open_reading : (κs : Lfts 8) (a : ArgsD open_contract.signature κs) (r : ResD open_contract.signature κs) (s : AtExit open_contract.ended κs)
    → Reading (λ w. (open_contract.clauses w.𝓛 w.𝓜.mem w.𝓡.returns κs a).ensures tt r s)
open_reading κs a r s = one_fact _

abbrev erasures_reading : (κs : Lfts 7) (a : ArgsD erasures_contract.signature κs) (r : ResD erasures_contract.signature κs) (s : AtExit erasures_contract.ended κs)
    → Reading (λ w. (erasures_contract.clauses w.𝓛 w.𝓜.mem w.𝓡.returns κs a).ensures tt r s)
erasures_reading κs a r s = one_fact _

abbrev weights_reading : (κs : Lfts 8) (a : ArgsD weights_contract.signature κs) (r : ResD weights_contract.signature κs) (s : AtExit weights_contract.ended κs)
    → Reading (λ w. (weights_contract.clauses w.𝓛 w.𝓜.mem w.𝓡.returns κs a).ensures tt r s)
weights_reading κs a r s = one_fact _

abbrev reset_reading : (κs : Lfts 6) (a : ArgsD reset_contract.signature κs) (r : ResD reset_contract.signature κs) (s : AtExit reset_contract.ended κs)
    → Reading (λ w. (reset_contract.clauses w.𝓛 w.𝓜.mem w.𝓡.returns κs a).ensures tt r s)
reset_reading κs a r s = one_fact _

-- Engine, Open: an open that returned: the counts, what it was handed, the answer, and the engine's columns before and after.
pub data OpenReturned : (vertices edges : ℕ) (handed lent₀ : GraphColumns) → Result EngineCounts Refusal → (lent : GraphColumns) → Type 0 where
  open_returned : (κs : Lfts 8) (a : ArgsD open_contract.signature κs) (r : Result EngineCounts Refusal) (s : AtExit open_contract.ended κs) → Learnt (open_reading κs a r s)
      → OpenReturned a.0 a.1.0
      (graph_columns a.1.1.0.now a.1.1.1.0.now a.1.1.1.1.0.now a.1.1.1.1.1.0.now)
      (graph_columns a.1.1.1.1.1.1.0.now a.1.1.1.1.1.1.1.0.now a.1.1.1.1.1.1.1.1.0.now a.1.1.1.1.1.1.1.1.1.0.now)
      r
      (graph_columns s.1.1.1.1.1.1.0.now s.1.1.1.1.1.1.1.0.now s.1.1.1.1.1.1.1.1.0.now s.1.1.1.1.1.1.1.1.1.0.now)

-- Engine, Tally, sentence 2: an open that was accepted: the counts, what it was handed, and the engine's columns as it left them, with any log.
pub data OpenCalled : (vertices edges : ℕ) → GraphColumns → Engine → Type 0 where
  open_called : {vertices edges : ℕ} {handed lent₀ lent : GraphColumns} (c : EngineCounts) (log_edges log_weights : List ℕ)
      → OpenReturned vertices edges handed lent₀ (Ok c) lent
      → OpenCalled vertices edges handed (engine c lent.ends_a lent.ends_b lent.weights lent.boundary log_edges log_weights)

-- Engine, Load and Reset: a load or a reset that returned: the columns lent, the answer, and the columns as the call left them.
pub data Called : Call → Engine → Result EngineCounts Refusal → Engine → Type 0 where
  load_erasures_called : (κs : Lfts 7) (a : ArgsD erasures_contract.signature κs) (r : Result EngineCounts Refusal) (s : AtExit erasures_contract.ended κs) → Learnt (erasures_reading κs a r s)
      → Called (load_erasures a.1.1.1.1.1.1.1.0.now)
      (engine_in a.0 a.1.0.now a.1.1.0.now a.1.1.1.0.now a.1.1.1.1.0.now a.1.1.1.1.1.0.now a.1.1.1.1.1.1.0.now)
      r
      (engine_in (kept a.0 r) a.1.0.now a.1.1.0.now s.1.1.1.0.now a.1.1.1.1.0.now s.1.1.1.1.1.0.now s.1.1.1.1.1.1.0.now)
  load_weights_called : (κs : Lfts 8) (a : ArgsD weights_contract.signature κs) (r : Result EngineCounts Refusal) (s : AtExit weights_contract.ended κs) → Learnt (weights_reading κs a r s)
      → Called (load_weights a.1.1.1.1.1.1.1.0.now a.1.1.1.1.1.1.1.1.0.now)
      (engine_in a.0 a.1.0.now a.1.1.0.now a.1.1.1.0.now a.1.1.1.1.0.now a.1.1.1.1.1.0.now a.1.1.1.1.1.1.0.now)
      r
      (engine_in (kept a.0 r) a.1.0.now a.1.1.0.now s.1.1.1.0.now a.1.1.1.1.0.now s.1.1.1.1.1.0.now s.1.1.1.1.1.1.0.now)
  reset_called : (κs : Lfts 6) (a : ArgsD reset_contract.signature κs) (r : Result EngineCounts Refusal) (s : AtExit reset_contract.ended κs) → Learnt (reset_reading κs a r s)
      → Called reset
      (engine_in a.0 a.1.0.now a.1.1.0.now a.1.1.1.0.now a.1.1.1.1.0.now a.1.1.1.1.1.0.now a.1.1.1.1.1.1.0.now)
      r
      (engine_in (kept a.0 r) a.1.0.now a.1.1.0.now s.1.1.1.0.now a.1.1.1.1.0.now a.1.1.1.1.1.0.now a.1.1.1.1.1.1.0.now)

-- Engine, Crossing: a crossing that returned: the columns lent, which it only reads, the lengths of its own columns, the answer, and the weight column before and after.
pub data CrossingCalled : Engine → OwnLengths → Result ℕ Refusal → (column₀ column : List ℤ) → Type 0 where
  crossing_called : {e : Engine} {r : Result ℕ Refusal} {column₀ column : List ℤ} (scratch₀ scratch : ScratchColumns) → CrossingReturned e r column₀ column scratch₀ scratch
      → CrossingCalled e (own_lengths column₀ scratch₀) r column₀ column

-- Engine, Tally, sentences 2 and 3: a list of calls with the number of each answer: each call is lent the engine's columns, the log and their counts
-- as the call before left them; other columns are any.
pub data Calls : Engine → List ListedCall → List ℕ → Engine → Type 0 where
  no_call : {e : Engine} → Calls e [] [] e
  modified_then : {e e₁ e₂ : Engine} {cs : List ListedCall} {ns : List ℕ} (call : Call) (r : Result EngineCounts Refusal)
      → Called call e r e₁ → Calls e₁ cs ns e₂ → Calls e (modifies (record { call = call; lent = lengths_of e }) ∷ cs) (question_of r ∷ ns) e₂
  crossed_then : {e e₂ : Engine} {cs : List ListedCall} {ns : List ℕ} (own : OwnLengths) (r : Result ℕ Refusal) (column₀ column : List ℤ)
      → CrossingCalled e own r column₀ column → Calls e cs ns e₂ → Calls e (crosses (lengths_of e) own ∷ cs) (reply_number r ∷ ns) e₂
