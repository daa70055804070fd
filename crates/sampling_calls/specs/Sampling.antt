-- `generate_random_errors`: errors and erasures by two draws of the seeded generator for every edge.
use Rattle.std.specs.Prelude.{ℕ, Bool, ◌&&◌, List, length, take, replicate, Float, Result}
use Rattle.columns.specs.Questions.{ask, all}
use Rattle.sampling_generator.specs.declared.DeterministicRng.{DeterministicRng}
use Rattle.sampling_generator.specs.Random.{seed_from_u64}
use Rattle.weights_recipe.specs.Probabilities.{is_probability, is_erasure_probability}
use Rattle.sampling_flips.specs.Flip.{flip_each}
use Rattle.sampling_edges.specs.Draws.{sampled_erasures, sampled_errors}
use Rattle.columns.specs.declared.refusal.Refusal.{Refusal}
use Rattle.columns_answers.specs.declared.SyndromeLengths.{SyndromeLengths}
use Rattle.columns_room.specs.Room.{two_long}
use Rattle.columns_room.specs.Graph.{CodeGraph, graph_long, code_sound}
use Rattle.sampling_calls.specs.Records.{SyndromeColumns, syndrome_long}
use Rattle.sampling_calls.specs.Errors.{SyndromeAfter}

-- Sampling, syndromes, reordering, paragraph 1, sentence 5: the defect bytes: errors on the edges that the draws say, over no defects.
unfoldable pub sampled_defects : DeterministicRng → CodeGraph → (p pe : List Float) → List ℕ
sampled_defects r g p pe =
    flip_each g.ends_a g.ends_b g.boundary (sampled_errors r p pe g.edges) (replicate g.vertices 0)

-- Questions at the door, 9: of the first places of p and pe, as many as there are edges.
unfoldable pub probabilities_sound : (e : ℕ) (p pe : List Float) → Bool
probabilities_sound e p pe = all is_probability (take e p) && all is_erasure_probability (take e pe)

-- Questions at the door, 6, 7 and 9, in order, of `generate_random_errors`; the bytes are only written, so 7 does not ask of them.
unfoldable pub sampling_refusal : CodeGraph → (p pe : List Float) → SyndromeColumns → ℕ
sampling_refusal g p pe s =
    ask (graph_long g && (two_long g.edges (length p) (length pe) && syndrome_long g.vertices g.edges s)) 6
    (ask (code_sound g) 7
    (ask (probabilities_sound g.edges p pe) 9 0))

-- Sampling, syndromes, reordering, paragraph 1, sentences 1 and 5: defects and erasures by the draws of the seeded generator.
abbrev pub GeneratedRandomErrors : (seed : ℕ) → CodeGraph → (p pe : List Float) → SyndromeColumns → Result SyndromeLengths Refusal → SyndromeColumns → Type 0
GeneratedRandomErrors seed g p pe s₀ answer s =
    SyndromeAfter (sampling_refusal g p pe s₀) g.vertices g.edges
    (sampled_defects (seed_from_u64 seed) g p pe) (sampled_erasures (seed_from_u64 seed) pe g.edges)
    s₀ answer s
