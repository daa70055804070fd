-- Calls of the real functions. `Learnt` is what a caller of a function learns of a call, made from the function's own contract: lifetimes, the arguments
-- as they were passed, the result, and the parameters at exit. A parameter that is only read is at exit as it was passed.
use Rattle.std.specs.Prelude.{ℕ, List, [], ◌∷◌, Float, Result}
use contract.Lifetimes.{Lfts}
use denote.Triple.Clauses.{AtExit}
use borrow.Fn.World.{ArgsD, ResD}
use Rattle.learnt.specs.Learnt.{Reading, Learnt, one_fact}
use Rattle.columns.specs.declared.refusal.Refusal.{Refusal}
use Rattle.columns_answers.specs.declared.SyndromeLengths.{SyndromeLengths}
use Rattle.columns_room.specs.Graph.{CodeGraph, code_graph}
use Rattle.sampling_generator.specs.declared.DeterministicRng.{DeterministicRng}
use Rattle.sampling_generator.specs.declared.Drawn.{Drawn}
use Rattle.sampling_generator.specs.contracts.DeterministicRng.seed_from_u64 as seed_contract
use Rattle.sampling_generator.specs.contracts.DeterministicRng.next_f64 as draw_contract
use Rattle.sampling_flips.specs.contracts.flip as flip_contract
use Rattle.sampling_calls.specs.Records.{SyndromeColumns, syndrome_columns}
use Rattle.sampling_calls.specs.contracts.generate_random_errors as sampling_contract
use Rattle.sampling_calls.specs.contracts.generate_errors as errors_contract
use Rattle.sampling_calls.specs.contracts.syndrome_of as syndrome_contract

-- What a caller of each function learns of a call.
abbrev seed_reading : (κs : Lfts 0) (a : ArgsD seed_contract.signature κs) (r : ResD seed_contract.signature κs) (s : AtExit seed_contract.ended κs)
    → Reading (λ w. (seed_contract.clauses w.𝓛 w.𝓜.mem w.𝓡.returns κs a).ensures tt r s)
seed_reading κs a r s = one_fact _

abbrev draw_reading : (κs : Lfts 0) (a : ArgsD draw_contract.signature κs) (r : ResD draw_contract.signature κs) (s : AtExit draw_contract.ended κs)
    → Reading (λ w. (draw_contract.clauses w.𝓛 w.𝓜.mem w.𝓡.returns κs a).ensures tt r s)
draw_reading κs a r s = one_fact _

abbrev flip_reading : (κs : Lfts 0) (a : ArgsD flip_contract.signature κs) (r : ResD flip_contract.signature κs) (s : AtExit flip_contract.ended κs)
    → Reading (λ w. (flip_contract.clauses w.𝓛 w.𝓜.mem w.𝓡.returns κs a).ensures tt r s)
flip_reading κs a r s = one_fact _

abbrev sampling_reading : (κs : Lfts 9) (a : ArgsD sampling_contract.signature κs) (r : ResD sampling_contract.signature κs) (s : AtExit sampling_contract.ended κs)
    → Reading (λ w. (sampling_contract.clauses w.𝓛 w.𝓜.mem w.𝓡.returns κs a).ensures tt r s)
sampling_reading κs a r s = one_fact _

abbrev errors_reading : (κs : Lfts 8) (a : ArgsD errors_contract.signature κs) (r : ResD errors_contract.signature κs) (s : AtExit errors_contract.ended κs)
    → Reading (λ w. (errors_contract.clauses w.𝓛 w.𝓜.mem w.𝓡.returns κs a).ensures tt r s)
errors_reading κs a r s = one_fact _

abbrev syndrome_reading : (κs : Lfts 5) (a : ArgsD syndrome_contract.signature κs) (r : ResD syndrome_contract.signature κs) (s : AtExit syndrome_contract.ended κs)
    → Reading (λ w. (syndrome_contract.clauses w.𝓛 w.𝓜.mem w.𝓡.returns κs a).ensures tt r s)
syndrome_reading κs a r s = one_fact _

-- Sampling, syndromes, reordering, paragraph 1, sentence 1: a `seed_from_u64` that returned: the seed and the generator.
pub data SeedReturned : (seed : ℕ) → DeterministicRng → Type 0 where
  seed_returned : (κs : Lfts 0) (a : ArgsD seed_contract.signature κs) (r : DeterministicRng) (s : AtExit seed_contract.ended κs) → Learnt (seed_reading κs a r s) → SeedReturned a.0 r

-- Sampling, syndromes, reordering, paragraph 1, sentence 4: draws that returned, by `next_f64`, the first from a generator, each later one from the generator as the draw
-- before left it; and what they yielded.
pub data DrawsReturned : DeterministicRng → List Float → Type 0 where
  no_draw : {g : DeterministicRng} → DrawsReturned g []
  draw_then : {values : List Float} (κs : Lfts 0) (a : ArgsD draw_contract.signature κs) (r : Drawn) (s : AtExit draw_contract.ended κs) → Learnt (draw_reading κs a r s)
      → DrawsReturned r.rng values → DrawsReturned a.0 (r.value ∷ values)

-- Document 02, job 4, sentence 2: a `flip` that returned: the vertex's boundary byte and defect byte, and the defect byte that the flip gave.
pub data FlipReturned : (boundary byte result : ℕ) → Type 0 where
  flip_returned : (κs : Lfts 0) (a : ArgsD flip_contract.signature κs) (r : ℕ) (s : AtExit flip_contract.ended κs) → Learnt (flip_reading κs a r s) → FlipReturned a.0 a.1.0 r

-- Sampling, syndromes, reordering, paragraph 1, sentence 5: a `generate_random_errors` that returned: the seed, the graph, p and pe, the columns lent, the answer, and
-- the columns as the call left them.
pub data SamplingReturned : (seed : ℕ) → CodeGraph → (p pe : List Float) (s₀ : SyndromeColumns) → Result SyndromeLengths Refusal → (s : SyndromeColumns) → Type 0 where
  sampling_returned : (κs : Lfts 9) (a : ArgsD sampling_contract.signature κs) (r : Result SyndromeLengths Refusal) (s : AtExit sampling_contract.ended κs) → Learnt (sampling_reading κs a r s)
      → SamplingReturned a.0
      (code_graph a.1.0 a.1.1.0 a.1.1.1.0.now a.1.1.1.1.0.now a.1.1.1.1.1.1.1.0.now)
      a.1.1.1.1.1.0.now a.1.1.1.1.1.1.0.now
      (syndrome_columns a.1.1.1.1.1.1.1.1.0.now a.1.1.1.1.1.1.1.1.1.0.now a.1.1.1.1.1.1.1.1.1.1.0.now a.1.1.1.1.1.1.1.1.1.1.1.0.now)
      r
      (syndrome_columns s.1.1.1.1.1.1.1.1.0.now s.1.1.1.1.1.1.1.1.1.0.now s.1.1.1.1.1.1.1.1.1.1.0.now s.1.1.1.1.1.1.1.1.1.1.1.0.now)

-- Sampling, syndromes, reordering, paragraph 2, sentence 1: a `generate_errors` that returned: the graph, the list of edges, the columns lent, the answer, and the
-- columns as the call left them; the erasure bytes are only read.
pub data ErrorsReturned : CodeGraph → (list : List ℕ) (s₀ : SyndromeColumns) → Result SyndromeLengths Refusal → (s : SyndromeColumns) → Type 0 where
  errors_returned : (κs : Lfts 8) (a : ArgsD errors_contract.signature κs) (r : Result SyndromeLengths Refusal) (s : AtExit errors_contract.ended κs) → Learnt (errors_reading κs a r s)
      → ErrorsReturned
      (code_graph a.0 a.1.0 a.1.1.0.now a.1.1.1.0.now a.1.1.1.1.0.now)
      a.1.1.1.1.1.0.now
      (syndrome_columns a.1.1.1.1.1.1.0.now a.1.1.1.1.1.1.1.0.now a.1.1.1.1.1.1.1.1.0.now a.1.1.1.1.1.1.1.1.1.0.now)
      r
      (syndrome_columns s.1.1.1.1.1.1.0.now a.1.1.1.1.1.1.1.0.now s.1.1.1.1.1.1.1.1.0.now s.1.1.1.1.1.1.1.1.1.0.now)

-- Sampling, syndromes, reordering, paragraph 2, sentence 3: a `syndrome_of` that returned: the graph, the list of edges, the column for the defects as it was lent, the
-- answer, and the column as the call left it.
pub data SyndromeReturned : CodeGraph → (list defectList₀ : List ℕ) → Result ℕ Refusal → (defect_list : List ℕ) → Type 0 where
  syndrome_returned : (κs : Lfts 5) (a : ArgsD syndrome_contract.signature κs) (r : Result ℕ Refusal) (s : AtExit syndrome_contract.ended κs) → Learnt (syndrome_reading κs a r s)
      → SyndromeReturned
      (code_graph a.0 a.1.0 a.1.1.0.now a.1.1.1.0.now a.1.1.1.1.0.now)
      a.1.1.1.1.1.0.now a.1.1.1.1.1.1.0.now r s.1.1.1.1.1.1.0.now
