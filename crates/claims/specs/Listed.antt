-- A list of load-erasures, load-weights, reset and crossing calls, as the tally is fed it: arguments, and the lengths of the columns lent.
use Rattle.std.specs.Prelude.{ℕ, Bool, ◌&&◌, List, [], ◌∷◌, length, get_or, ℤ, leb}
use Rattle.columns.specs.Questions.{ask}
use Rattle.engine_columns.specs.declared.EngineCounts.{EngineCounts}
use Rattle.engine_columns.specs.Calls.{Call}
use Rattle.engine_tally.specs.Tally.{Lengths, Tally, Fed, tally_long, tally_refusal, tally_step, tally_after}
use Rattle.engine_walks.specs.Graph.{Graph}
use Rattle.engine_walks.specs.Answers.{crossing}
use Rattle.query_crossing_answer.specs.Crossing.{is_joined}
use Rattle.query_questions.specs.Scratch.{ScratchColumns, ScratchLengths, scratch_lengths, scratch_long}

-- Engine, Tally, sentence 5: the lengths of the columns that only a crossing is lent: the weight column and scratch.
pub record OwnLengths : Type 0 where
  pub weights : ℕ
  pub scratch : ScratchLengths

-- Engine, Tally, sentence 5: these lengths, of the columns lent.
abbrev pub own_lengths : List ℤ → ScratchColumns → OwnLengths
own_lengths weights scratch = record { weights = length weights; scratch = scratch_lengths scratch }

-- Engine, Tally, sentence 5: one call as the tally is fed it: a load or a reset, or a crossing.
pub data ListedCall : Type 0 where
  modifies : Fed → ListedCall
  crosses : Lengths → OwnLengths → ListedCall

-- Demand 3, sentence 1: one call as its caller makes it: a load or a reset with its arguments, or a crossing with its weight column and scratch.
pub data CallArguments : Type 0 where
  modify_by : Call → CallArguments
  cross_with : (weights : List ℤ) → ScratchColumns → CallArguments

-- Engine, Tally, sentence 5: a list of such calls as the tally is fed it, where the engine's columns have the lengths k.
abbrev pub listed_calls : Lengths → List CallArguments → List ListedCall
listed_calls k [] = []
listed_calls k (modify_by call ∷ cs) = modifies (record { call = call; lent = k }) ∷ listed_calls k cs
listed_calls k (cross_with weights scratch ∷ cs) = crosses k (own_lengths weights scratch) ∷ listed_calls k cs

-- Engine, Tally, sentence 6: the graph that the tally holds.
abbrev pub tally_graph : Tally → Graph
tally_graph t = record { vertices = t.counts.vertices; ends_a = t.ends_a; ends_b = t.ends_b; boundary = t.boundary }

-- Engine, Tally, sentence 6: the weight that the tally holds for each edge.
abbrev pub tally_weights : Tally → ℕ → ℕ
tally_weights t k = get_or t.weights k 0

-- Engine, Tally, sentence 7; Questions at the door, 6, of a crossing, from the lengths.
abbrev pub crossing_long : Lengths → OwnLengths → EngineCounts → Bool
crossing_long k o c =
    tally_long 0 k c
    && (leb c.vertices o.weights
    && scratch_long c o.scratch)

-- Engine, Tally, sentence 7: the question of a crossing before 18: 7 is always met.
abbrev pub before18 : Lengths → OwnLengths → Tally → ℕ
before18 k o t = ask (crossing_long k o t.counts) 6 0

-- Engine, Tally, sentence 7: the tally's answer to the questions of a crossing, 6, then 18.
abbrev pub tally_crossing_refusal : Lengths → OwnLengths → Tally → ℕ
tally_crossing_refusal k o t = ask (crossing_long k o t.counts) 6 (ask (is_joined (crossing (tally_graph t) (tally_weights t))) 18 0)

-- Engine, Tally, sentence 10: the loads and resets of a list.
abbrev pub modifying : List ListedCall → List Fed
modifying [] = []
modifying (modifies f ∷ cs) = f ∷ modifying cs
modifying (crosses k o ∷ cs) = modifying cs

-- Demand 3, sentence 3: of the answers to a list of calls, those to its loads and resets.
abbrev pub modifying_answers : List ListedCall → (answers : List ℕ) → List ℕ
modifying_answers [] ns = []
modifying_answers (c ∷ cs) [] = []
modifying_answers (modifies f ∷ cs) (n ∷ ns) = n ∷ modifying_answers cs ns
modifying_answers (crosses k o ∷ cs) (n ∷ ns) = modifying_answers cs ns

-- Engine, Tally, sentences 4 and 10: the tally at a list's end: crossings leave it.
abbrev pub tally_at_end : List ListedCall → Tally → Tally
tally_at_end cs t = tally_after (modifying cs) t

-- Engine, Tally, sentence 7: the tally's answer to each call of a list: its number, 0 where it is accepted.
abbrev pub numbers : List ListedCall → Tally → List ℕ
numbers [] t = []
numbers (modifies f ∷ cs) t = tally_refusal f.call f.lent t ∷ numbers cs (tally_step f t)
numbers (crosses k o ∷ cs) t = tally_crossing_refusal k o t ∷ numbers cs t
