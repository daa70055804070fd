-- The lists of defects and erasures that the calls hand back.
use Rattle.std.specs.Prelude.{ℕ, List, Float, Ok}
use Rattle.columns_answers.specs.Counts.{syndrome_lengths}
use Rattle.columns_room.specs.Graph.{CodeGraph}
use Rattle.columns_marks.specs.Marks.{AscendingList}
use Rattle.sampling_calls.specs.Records.{SyndromeColumns}
use Rattle.sampling_claims.specs.Called.{SamplingReturned, ErrorsReturned, SyndromeReturned}

-- Sampling, syndromes, reordering, paragraph 2, sentence 4: every list of defects or erasures that an accepted call hands back.
pub record ListsAscend : Type 0 where
  pub of_generate_random_errors : (seed : ℕ) (g : CodeGraph) (p pe : List Float) (s₀ s : SyndromeColumns) (d e : ℕ) → SamplingReturned seed g p pe s₀ (Ok (syndrome_lengths d e)) s
      → AscendingList d s₀.defect_list s.defect_list × AscendingList e s₀.erasure_list s.erasure_list
  pub of_generate_errors : (g : CodeGraph) (list : List ℕ) (s₀ s : SyndromeColumns) (d e : ℕ) → ErrorsReturned g list s₀ (Ok (syndrome_lengths d e)) s
      → AscendingList d s₀.defect_list s.defect_list × AscendingList e s₀.erasure_list s.erasure_list
  pub of_syndrome_of : (g : CodeGraph) (list defectList₀ defect_list : List ℕ) (n : ℕ) → SyndromeReturned g list defectList₀ (Ok n) defect_list
      → AscendingList n defectList₀ defect_list
