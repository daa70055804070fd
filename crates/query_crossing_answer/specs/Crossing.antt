-- What the crossing query answers and leaves in the weight column.
use Rattle.std.specs.Prelude.{ℕ, ◌≡◌, Bool, true, false, ◌&&◌, List, length, leb, ℤ, Result}
use Rattle.std.proofs.Math.Option.{Option, some, none}
use Rattle.columns.specs.Lists.{after}
use Rattle.columns.specs.Questions.{ask}
use Rattle.columns.specs.declared.refusal.Refusal.{Refusal}
use Rattle.columns_answers.specs.Said.{said, Answered}
use Rattle.engine_columns.specs.Records.{Engine}
use Rattle.engine_columns.specs.Questions.{engine_long, engine_sound}
use Rattle.engine_walks.specs.Answers.{crossing, from_left, least_from_left}
use Rattle.query_questions.specs.Queries.{graph_in, weights_in}
use Rattle.query_questions.specs.Scratch.{ScratchColumns, scratch_fits, ScratchAfter}

-- Expected forms by place, last paragraph: the number of a reply.
abbrev pub reply_number : Result ℕ Refusal → ℕ
reply_number r = (said 0 r).number

-- Expected forms by place, last paragraph: the crossing weight of a reply, 0 at a refusal.
abbrev pub reply_weight : Result ℕ Refusal → ℕ
reply_weight r = (said 0 r).values

-- Questions at the door, 18, from the crossing weight if there is one.
abbrev pub is_joined : Option ℕ → Bool
is_joined none = false
is_joined (some weight) = true

-- Engine, Crossing, sentence 1: the crossing weight, 0 if there is none.
abbrev pub weight_found : Option ℕ → ℕ
weight_found none = 0
weight_found (some weight) = weight

-- Questions at the door, 6 and 7, in order, of `crossing`, and the question after them; `scratch` says whether scratch is long enough.
abbrev pub crossing_asked : Engine → (scratch : Bool) (weights next : ℕ) → ℕ
crossing_asked e scratch weights next = ask (engine_long 0 e && (leb e.counts.vertices weights && scratch)) 6 (ask (engine_sound e) 7 next)

-- Questions at the door, 6, 7 and 18, in order, of `crossing`: the number of the first that is not met, or 0.
abbrev pub crossing_refusal : Engine → (scratch : Bool) (weights : ℕ) → ℕ
crossing_refusal e scratch weights = crossing_asked e scratch weights (ask (is_joined (crossing (graph_in e) (weights_in e))) 18 0)

-- Engine, Crossing: the answer of `crossing`, the weight column (sentence 2), and scratch (last sentence): after success and after 18 it holds what the search
-- from the left leaves; a call that 6 or 7 refuses leaves it as it was.
pub record FoundCrossing (e : Engine) (answer : Result ℕ Refusal) (weights₀ weights : List ℤ) (scratch₀ scratch : ScratchColumns) : Type 0 where
  pub answers : Answered (said 0 answer) (crossing_refusal e (scratch_fits e.counts scratch₀) (length weights₀)) (weight_found (crossing (graph_in e) (weights_in e))) 0
  pub weights_after : weights ≡ after (crossing_refusal e (scratch_fits e.counts scratch₀) (length weights₀)) (least_from_left (graph_in e) (weights_in e)) weights₀
  pub scratch_after : ScratchAfter (reply_number answer) (graph_in e) (from_left (graph_in e) (weights_in e)) scratch₀ scratch
