-- Samplings: two draws for every edge, what two with one seed have in common, and which syndrome one leaves.
use Rattle.std.specs.Prelude.{ℕ, ◌+◌, ◌*◌, ◌/◌, ◌^◌, ◌≤◌, ◌<◌, ◌≡◌, false, cond, List, length, get_or, take, pos, Float, Ok}
use Rattle.std.specs.Float.{binary64}
use Rattle.std.specs.Float.Ieee.{div, of_int, lt}
use Rattle.std.specs.Float.Ieee.Exact.{HasValue}
use Rattle.columns.specs.Places.{zero_float, half}
use Rattle.columns_answers.specs.Counts.{syndrome_lengths}
use Rattle.columns_room.specs.Graph.{CodeGraph}
use Rattle.columns_marks.specs.Marks.{Ascending, names, marks}
use Rattle.sampling_generator.specs.declared.DeterministicRng.{DeterministicRng}
use Rattle.sampling_generator.specs.Random.{seed_from_u64, draw_of}
use Rattle.sampling_edges.specs.Draws.{draw_number, sampled_errors}
use Rattle.sampling_calls.specs.Records.{SyndromeColumns}
use Rattle.sampling_calls.specs.Syndrome.{syndrome_of}
use Rattle.sampling_claims.specs.Called.{SeedReturned, DrawsReturned, SamplingReturned, SyndromeReturned}

-- ---- two samplings with one seed

-- Sampling, syndromes, reordering, paragraph 1, sentence 6: the edges before number k carry the same p and pe.
pub record SameBefore (k : ℕ) (p₁ pe₁ p₂ pe₂ : List Float) : Type 0 where
  pub same_p : (j : ℕ) → j < k → get_or p₁ j zero_float ≡ get_or p₂ j zero_float
  pub same_pe : (j : ℕ) → j < k → get_or pe₁ j zero_float ≡ get_or pe₂ j zero_float

-- Sampling, syndromes, reordering, paragraph 1, sentence 6: two accepted samplings with one seed, of any two graphs, whose edges before number k carry the same p and pe:
-- both set the same erasure marks before k.
abbrev pub SameMarks : Type 0
SameMarks =
    (seed k : ℕ) (g₁ g₂ : CodeGraph) (p₁ pe₁ p₂ pe₂ : List Float) (s₁ t₁ s₂ t₂ : SyndromeColumns) (d₁ e₁ d₂ e₂ : ℕ)
    → SamplingReturned seed g₁ p₁ pe₁ s₁ (Ok (syndrome_lengths d₁ e₁)) t₁ → SamplingReturned seed g₂ p₂ pe₂ s₂ (Ok (syndrome_lengths d₂ e₂)) t₂
    → k ≤ g₁.edges → k ≤ g₂.edges → SameBefore k p₁ pe₁ p₂ pe₂ → take k t₁.erasure ≡ take k t₂.erasure

-- ---- two draws for every edge

-- Sampling, syndromes, reordering, paragraph 1, sentences 1 and 4: draw number n of the generator that the seed gives, counted from 1.
abbrev pub draw_of_seed : (seed n : ℕ) → Float
draw_of_seed seed n = draw_number (seed_from_u64 seed) n

-- Sampling, syndromes, reordering, paragraph 1, sentence 5: the edges whose error was drawn in a sampling with this seed.
abbrev pub drawn_errors : (seed : ℕ) → CodeGraph → (p pe : List Float) → List ℕ
drawn_errors seed g p pe = sampled_errors (seed_from_u64 seed) p pe g.edges

-- Sampling, syndromes, reordering, paragraph 1, sentence 5: an accepted sampling takes two draws for every edge. Edge k is marked as erased exactly where draw 2k + 1 is
-- below its pe; its error is drawn exactly where draw 2k + 2 is below 0.5 if it is erased, else below its p. The edges whose error was drawn are named once, ascending.
pub record TwoDraws (seed : ℕ) (g : CodeGraph) (p pe : List Float) (s : SyndromeColumns) : Type 0 where
  pub erased : (k : ℕ) → k < g.edges → get_or s.erasure k 0 ≡ cond (lt (draw_of_seed seed (2 * k + 1)) (get_or pe k zero_float)) 1 0
  pub drawn : (k : ℕ) → k < g.edges
      → names (drawn_errors seed g p pe) k ≡ lt (draw_of_seed seed (2 * k + 2)) (cond (lt (draw_of_seed seed (2 * k + 1)) (get_or pe k zero_float)) half (get_or p k zero_float))
  pub edges_alone : (i : ℕ) → i < length (drawn_errors seed g p pe) → get_or (drawn_errors seed g p pe) i 0 < g.edges
  pub ascends : Ascending (length (drawn_errors seed g p pe)) (drawn_errors seed g p pe)

-- Sampling, syndromes, reordering, paragraph 1, sentences 4 and 5: of every accepted sampling; and draw number n of a seed is what the generator that the seed gives
-- yields as its draw number n; a draw is (word >> 12) / 2⁵².
pub record TakesTwoDraws : Type 0 where
  pub two_draws : (seed : ℕ) (g : CodeGraph) (p pe : List Float) (s₀ s : SyndromeColumns) (d e : ℕ) → SamplingReturned seed g p pe s₀ (Ok (syndrome_lengths d e)) s → TwoDraws seed g p pe s
  pub in_order : (seed : ℕ) (g : DeterministicRng) (values : List Float) → SeedReturned seed g → DrawsReturned g values
      → (i : ℕ) → i < length values → get_or values i zero_float ≡ draw_of_seed seed (i + 1)
  pub fraction : (word : ℕ) → (d : Float) × HasValue d false (2 ^ 52) 1 × (draw_of word ≡ div binary64 (of_int binary64 (pos (word / 2 ^ 12))) d)

-- ---- the syndrome of a sampling

-- Sampling, syndromes, reordering, paragraph 1, sentence 5, and paragraph 2, sentence 3: the d defects listed, and those marked by a byte of 1, are the syndrome of the
-- edges whose error was drawn.
pub record DefectsOf (errors : List ℕ) (g : CodeGraph) (d : ℕ) (s : SyndromeColumns) : Type 0 where
  pub count : d ≡ length (syndrome_of g errors)
  pub listed_are : take d s.defect_list ≡ syndrome_of g errors
  pub marked_are : take g.vertices s.defect ≡ marks g.vertices (syndrome_of g errors)

-- Sampling, syndromes, reordering, paragraph 1, sentence 5, and paragraph 2, sentence 3: of every accepted sampling; and a `syndrome_of` of these edges on the same graph
-- answers and lists the same.
pub record SampledSyndrome : Type 0 where
  pub defects : (seed : ℕ) (g : CodeGraph) (p pe : List Float) (s₀ s : SyndromeColumns) (d e : ℕ) → SamplingReturned seed g p pe s₀ (Ok (syndrome_lengths d e)) s
      → DefectsOf (drawn_errors seed g p pe) g d s
  pub as_syndrome_of : (seed : ℕ) (g : CodeGraph) (p pe : List Float) (s₀ s : SyndromeColumns) (d e : ℕ) → SamplingReturned seed g p pe s₀ (Ok (syndrome_lengths d e)) s
      → (column₀ column : List ℕ) (n : ℕ) → SyndromeReturned g (drawn_errors seed g p pe) column₀ (Ok n) column → (n ≡ d) × (take n column ≡ take d s.defect_list)
