-- What the functions of this crate promise one another and their caller. No call of document 01 cites it.
use Rattle.std.specs.Prelude.{ℕ, ◌*◌, List, Float, ◌≡◌, cond}
use Rattle.std.proofs.lemmas.List.Edits.{sets}
use Rattle.std.specs.Float.Ieee.{lt}
use Rattle.columns.specs.Places.{half}
use Rattle.sampling_generator.specs.declared.DeterministicRng.{DeterministicRng}
use Rattle.sampling_generator.specs.Random.{word_of, next_of, draw_of}
use Rattle.sampling_flips.specs.Flip.{flip_each}
use Rattle.sampling_edges.specs.declared.SampledEdge.{SampledEdge}
use Rattle.sampling_edges.specs.Draws.{advanced, sampled_erasures, sampled_errors}

-- Sampling, syndromes, reordering, paragraph 1, sentence 5: what two draws say of an edge with p and pe, and the generator after them.
pub record EdgeSampled (g : DeterministicRng) (p pe : Float) (r : SampledEdge) : Type 0 where
  pub erased : r.erased ≡ lt (draw_of (word_of g)) pe
  pub error : r.error ≡ lt (draw_of (word_of (next_of g))) (cond r.erased half p)
  pub state : r.rng ≡ next_of (next_of g)

-- Sampling, syndromes, reordering, paragraph 1, sentence 5: the first i edges are sampled: the generator, the erasure bytes and the defect bytes.
pub record Sampled (g : DeterministicRng) (a b boundary : List ℕ) (p pe : List Float) (defect₀ erasure₀ : List ℕ) (i : ℕ) (next : DeterministicRng) (defect erasure : List ℕ) : Type 0 where
  pub state : next ≡ advanced g (2 * i)
  pub erasure_is : erasure ≡ sets erasure₀ 0 (sampled_erasures g pe i)
  pub defect_is : defect ≡ flip_each a b boundary (sampled_errors g p pe i) defect₀
