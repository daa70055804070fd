-- `generate_errors`.
use Rattle.std.specs.Prelude.{ℕ, ◌≡◌, ◌&&◌, List, length, take, Result}
use Rattle.columns.specs.Lists.{after}
use Rattle.columns.specs.Questions.{ask, all_below, marks_sound}
use Rattle.columns.specs.declared.refusal.Refusal.{Refusal}
use Rattle.columns_answers.specs.declared.SyndromeLengths.{SyndromeLengths}
use Rattle.columns_room.specs.Graph.{CodeGraph, graph_long, code_sound}
use Rattle.sampling_calls.specs.Records.{SyndromeColumns, syndrome_long}
use Rattle.columns_marks.specs.Marks.{listed}
use Rattle.sampling_flips.specs.Flip.{flip_each}
use Rattle.columns_answers.specs.Said.{said, Answered}
use Rattle.columns_answers.specs.Counts.{syndrome_lengths, no_lengths}

-- Sampling, syndromes, reordering, paragraph 2, sentence 4: what a call that generates errors answers and leaves: `number` is the question's, 0 where all are met;
-- then the defect and erasure bytes are those given, and both lists name the bytes that are set, here those that are 1, ascending.
pub record SyndromeAfter (number v e : ℕ) (defects erasures : List ℕ) (s₀ : SyndromeColumns) (answer : Result SyndromeLengths Refusal) (s : SyndromeColumns) : Type 0 where
  pub answers : Answered (said no_lengths answer) number (syndrome_lengths (length (listed v defects)) (length (listed e erasures))) no_lengths
  pub defect_after : s.defect ≡ after number defects s₀.defect
  pub erasure_after : s.erasure ≡ after number erasures s₀.erasure
  pub defect_list_after : s.defect_list ≡ after number (listed v defects) s₀.defect_list
  pub erasure_list_after : s.erasure_list ≡ after number (listed e erasures) s₀.erasure_list

-- ---- generate_errors

-- Questions at the door, 6, 7 and 13, in order, of `generate_errors`.
unfoldable pub errors_refusal : CodeGraph → List ℕ → SyndromeColumns → ℕ
errors_refusal g list s =
    ask (graph_long g && syndrome_long g.vertices g.edges s) 6
    (ask (code_sound g && (marks_sound g.vertices s.defect && marks_sound g.edges s.erasure)) 7
    (ask (all_below g.edges list) 13 0))

-- Sampling, syndromes, reordering, paragraph 2, sentence 1: an error on each listed edge, over the standing defects; the erasures stay.
abbrev pub GeneratedErrors : CodeGraph → List ℕ → SyndromeColumns → Result SyndromeLengths Refusal → SyndromeColumns → Type 0
GeneratedErrors g list s₀ answer s =
    SyndromeAfter (errors_refusal g list s₀) g.vertices g.edges
    (flip_each g.ends_a g.ends_b g.boundary list (take g.vertices s₀.defect)) (take g.edges s₀.erasure)
    s₀ answer s
