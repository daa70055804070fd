-- What a flip gives, and what errors on listed edges do to defects.
use Rattle.std.specs.Prelude.{ℕ, ◌+◌, ◌-◌, ◌%◌, ◌≤◌, ◌<◌, ◌≡◌, List, ◌∷◌, ◌++◌, get_or, take, Ok}
use Rattle.columns.specs.Limits.{inner}
use Rattle.columns_answers.specs.Counts.{syndrome_lengths}
use Rattle.columns_room.specs.Graph.{CodeGraph}
use Rattle.sampling_calls.specs.Records.{SyndromeColumns}
use Rattle.sampling_calls.specs.Syndrome.{ends_in}
use Rattle.sampling_claims.specs.Called.{FlipReturned, ErrorsReturned, SyndromeReturned}

-- Document 02, job 4, sentence 2: for the defect bytes 0 and 1 a flip gives 1 minus the byte at an inner vertex and the byte itself at a virtual one. For all bytes there is
-- a result that the contract of `flip` permits.
pub record FlipGives : Type 0 where
  pub returns : (boundary byte : ℕ) → (result : ℕ) × FlipReturned boundary byte result
  pub at_inner : (boundary byte result : ℕ) → FlipReturned boundary byte result → byte ≤ 1 → boundary ≡ inner → result ≡ 1 - byte
  pub at_virtual : (boundary byte result : ℕ) → FlipReturned boundary byte result → byte ≤ 1 → (boundary ≡ inner → ⊥) → result ≡ byte

-- Sampling, syndromes, reordering, paragraph 2, sentence 1: the defect bytes before and after errors on the listed edges. An inner vertex's byte flips once for each end
-- of a listed edge that is there, over the standing byte; a virtual one keeps its byte, and so do the places past the vertices.
pub record Flips (g : CodeGraph) (list defect₀ defect : List ℕ) : Type 0 where
  pub inner_flips : (v : ℕ) → v < g.vertices → get_or g.boundary v 0 ≡ inner → get_or defect v 0 ≡ (get_or defect₀ v 0 + ends_in g.ends_a g.ends_b list v) % 2
  pub virtual_keeps : (v : ℕ) → v < g.vertices → (get_or g.boundary v 0 ≡ inner → ⊥) → get_or defect v 0 ≡ get_or defect₀ v 0
  pub past_keeps : (v : ℕ) → g.vertices ≤ v → get_or defect v 0 ≡ get_or defect₀ v 0

-- Sampling, syndromes, reordering, paragraph 2, sentence 1: of every accepted `generate_errors`.
abbrev pub ErrorsFlip : Type 0
ErrorsFlip =
    (g : CodeGraph) (list : List ℕ) (s₀ s : SyndromeColumns) (d e : ℕ) → ErrorsReturned g list s₀ (Ok (syndrome_lengths d e)) s → Flips g list s₀.defect s.defect

-- Sampling, syndromes, reordering, paragraph 2, sentence 3: in `syndrome_of` an edge named twice cancels: two accepted calls on one graph, of which one names edge k
-- twice more, count the same defects and list the same numbers.
abbrev pub TwiceCancels : Type 0
TwiceCancels =
    (g : CodeGraph) (xs ys zs : List ℕ) (k : ℕ) (column₁ defects₁ column₂ defects₂ : List ℕ) (n₁ n₂ : ℕ)
    → SyndromeReturned g (xs ++ (k ∷ (ys ++ (k ∷ zs)))) column₁ (Ok n₁) defects₁ → SyndromeReturned g (xs ++ (ys ++ zs)) column₂ (Ok n₂) defects₂
    → (n₁ ≡ n₂) × (take n₁ defects₁ ≡ take n₂ defects₂)
