-- `clear_errors`.
use Rattle.std.specs.Prelude.{ℕ, ◌≡◌, ◌&&◌, List, length, replicate, leb, Result}
use Rattle.columns.specs.Lists.{after}
use Rattle.columns.specs.Questions.{ask, vertex_count_sound, edge_count_sound}
use Rattle.columns.specs.declared.refusal.Refusal.{Refusal}
use Rattle.columns_answers.specs.Said.{said, Answered}

-- Questions at the door, 6 and 7, of `clear_errors`; both columns are only written, so 7 asks the counts alone.
abbrev pub clear_refusal : (v e : ℕ) (defect erasure : List ℕ) → ℕ
clear_refusal v e defect erasure =
    ask (leb v (length defect) && leb e (length erasure)) 6 (ask (vertex_count_sound v && edge_count_sound e) 7 0)

-- Sampling, syndromes, reordering, paragraph 2, sentence 2: every defect byte 0, every erasure byte 1; the answer, and both columns afterwards.
pub record ClearedErrors (v e : ℕ) (defect₀ erasure₀ : List ℕ) (answer : Result (Unit {0}) Refusal) (defect erasure : List ℕ) : Type 0 where
  pub answers : Answered (said tt answer) (clear_refusal v e defect₀ erasure₀) tt tt
  pub defect_after : defect ≡ after (clear_refusal v e defect₀ erasure₀) (replicate v 0) defect₀
  pub erasure_after : erasure ≡ after (clear_refusal v e defect₀ erasure₀) (replicate e 1) erasure₀
