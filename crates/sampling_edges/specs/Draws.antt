-- Two draws of the seeded generator for every edge, whatever the other edges did.
use Rattle.std.specs.Prelude.{ℕ, zero, suc, ◌+◌, ◌*◌, ◌-◌, Bool, cond, List, get_or, Float}
use Rattle.std.specs.Float.Ieee.{lt}
use Rattle.columns.specs.Lists.{each}
use Rattle.columns.specs.Places.{zero_float, half}
use Rattle.sampling_generator.specs.declared.DeterministicRng.{DeterministicRng}
use Rattle.sampling_generator.specs.Random.{word_of, next_of, draw_of}
use Rattle.columns_neighbors.specs.Lists.{chosen}

-- Sampling, syndromes, reordering, paragraph 1, sentence 4: the generator after n draws.
unfoldable pub advanced : DeterministicRng → ℕ → DeterministicRng
advanced g zero = g
advanced g (suc n) = next_of (advanced g n)

-- Sampling, syndromes, reordering, paragraph 1, sentence 4: what draw number n yields; draws are counted from 1.
unfoldable pub draw_number : DeterministicRng → ℕ → Float
draw_number g n = draw_of (word_of (advanced g (n - 1)))

-- Sampling, syndromes, reordering, paragraph 1, sentence 5: edge k is erased: draw number 2k + 1 is below its pe.
unfoldable pub is_erased : DeterministicRng → List Float → ℕ → Bool
is_erased g pe k = lt (draw_number g (2 * k + 1)) (get_or pe k zero_float)

-- Sampling, syndromes, reordering, paragraph 1, sentence 5, as the Rust has it: the probability of an error on edge k: 0.5 where it is erased, else its p.
unfoldable pub error_probability : DeterministicRng → (p pe : List Float) → ℕ → Float
error_probability g p pe k = cond (is_erased g pe k) half (get_or p k zero_float)

-- Sampling, syndromes, reordering, paragraph 1, sentence 5: edge k has an error: draw number 2k + 2 is below that probability.
unfoldable pub has_error : DeterministicRng → (p pe : List Float) → ℕ → Bool
has_error g p pe k = lt (draw_number g (2 * k + 2)) (error_probability g p pe k)

-- Sampling, syndromes, reordering, paragraph 1, sentence 5: the erasure bytes of e edges.
unfoldable pub sampled_erasures : DeterministicRng → (pe : List Float) (e : ℕ) → List ℕ
sampled_erasures g pe e = each e (λ k. cond (is_erased g pe k) 1 0)

-- Sampling, syndromes, reordering, paragraph 1, sentence 5: the numbers of the edges with an error, ascending.
unfoldable pub sampled_errors : DeterministicRng → (p pe : List Float) (e : ℕ) → List ℕ
sampled_errors g p pe e = chosen e (has_error g p pe)
