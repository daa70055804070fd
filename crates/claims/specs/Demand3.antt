-- Demand 3, sentence by sentence.
use Rattle.std.specs.Prelude.{ℕ, ◌≤◌, ◌<◌, ◌≡◌, ◌↔◌, true, List, [], ◌∷◌, length, get_or, take, replicate, ℤ, Result, Ok}
use Rattle.columns.specs.Questions.{weights_sound}
use Rattle.columns_answers.specs.Said.{said, Answered}
use Rattle.codes_layers.specs.Accepts.{Buildable}
use Rattle.columns.specs.declared.refusal.Refusal.{Refusal}
use Rattle.engine_columns.specs.declared.EngineCounts.{EngineCounts}
use Rattle.engine_columns.specs.Records.{Engine, counts, no_counts}
use Rattle.engine_columns.specs.Questions.{columns_long}
use Rattle.engine_columns.specs.Calls.{Call, load_erasures, load_weights}
use Rattle.engine_columns.specs.Open.{GraphColumns, graph_columns, open_refusal}
use Rattle.engine_tally.specs.Tally.{Tally, tally_of, tally_numbers, lengths_of}
use Rattle.engine_tally.specs.Readers.{set_by_calls, weight_by}
use Rattle.engine_walks.specs.Lists.{sum}
use Rattle.engine_walks.specs.Graph.{Graph, LeftJoinsRight, CrossingSet}
use Rattle.engine_walks.specs.Answers.{weight_in}
use Rattle.engine_walks.specs.Claims.{Alike, NotGreater, LeftWeight}
use Rattle.query_questions.specs.Scratch.{ScratchColumns}
use Rattle.query_crossing_answer.specs.Crossing.{reply_number, reply_weight}
use Rattle.claims.specs.Listed.{OwnLengths, ListedCall, CallArguments, modify_by, cross_with, listed_calls, tally_graph, tally_weights, before18, tally_crossing_refusal, modifying, modifying_answers, tally_at_end, numbers}
use Rattle.claims.specs.QueriesCalled.{CrossingReturned}
use Rattle.claims.specs.BuildersCalled.{CodeBuilt}
use Rattle.claims.specs.Called.{OpenReturned, OpenCalled, Called, Calls, CrossingCalled}

-- Demand 3, sentence 1; Engine, Tally, sentence 2: a freshly opened graph and a list of
-- calls on it, with the number of each answer; `at_end`: the engine's columns at its end.
pub record History : Type 0 where
  pub vertices : ℕ
  pub edges : ℕ
  pub handed : GraphColumns
  pub fresh : Engine
  pub calls : List ListedCall
  pub answers : List ℕ
  pub at_end : Engine
  pub opened : OpenCalled vertices edges handed fresh
  pub called : Calls fresh calls answers at_end

-- Engine, Tally, sentence 6: the tally at first.
abbrev pub tally_first : History → Tally
tally_first h = tally_of h.vertices h.edges h.handed

-- Engine, Tally, sentence 4: the tally at the list's end.
abbrev pub tally_last : History → Tally
tally_last h = tally_at_end h.calls (tally_first h)

-- Engine, Tally, sentences 4 and 6: the graph that the tally then holds.
abbrev pub graph_at_end : History → Graph
graph_at_end h = tally_graph (tally_last h)

-- Engine, Tally, sentence 4: the weights that the tally then holds.
abbrev pub weights_at_end : History → ℕ → ℕ
weights_at_end h = tally_weights (tally_last h)

-- Demand 3, sentence 4: a crossing called then: its own columns' lengths, its answer, and the weight column before and after.
pub record CrossingThen (h : History) : Type 0 where
  pub own : OwnLengths
  pub reply : Result ℕ Refusal
  pub column₀ : List ℤ
  pub column : List ℤ
  pub called : CrossingCalled h.at_end own reply column₀ column

-- Demand 3, sentence 4: the question before 18 that refuses it, or 0.
abbrev pub refused_before : (h : History) → CrossingThen h → ℕ
refused_before h c = before18 (lengths_of h.at_end) c.own (tally_last h)

-- Demand 3, sentences 6 and 7: an accepted crossing after each of two lists, on graphs alike in ends and boundary bytes.
pub record TwoLists (h h' : History) (c : CrossingThen h) (c' : CrossingThen h') : Type 0 where
  pub alike : Alike (graph_at_end h) (graph_at_end h')
  pub accepted : reply_number c.reply ≡ 0
  pub accepted' : reply_number c'.reply ≡ 0

-- Demand 3, sentence 1: one history, written out. A graph of two vertices, left and right, and one edge of weight 5 is opened. The edge is loaded with weight 3 (accepted),
-- a crossing is called (accepted), and another load (refused by 12, since the log is not empty). A crossing called then reports 3.
pub record OneHistory : Type 0 where
  pub history : History
  pub vertices_are : history.vertices ≡ 2
  pub edges_are : history.edges ≡ 1
  pub handed_are : history.handed ≡ graph_columns (0 ∷ []) (1 ∷ []) (5 ∷ []) (1 ∷ 2 ∷ [])
  pub weights : List ℤ
  pub scratch : ScratchColumns
  pub calls_are : history.calls
      ≡ listed_calls (lengths_of history.fresh) (modify_by (load_weights (0 ∷ []) (3 ∷ [])) ∷ cross_with weights scratch ∷ modify_by (load_erasures (0 ∷ [])) ∷ [])
  pub answers_are : history.answers ≡ 0 ∷ 0 ∷ 12 ∷ []
  pub crossing : CrossingThen history
  pub reports : crossing.reply ≡ Ok 3

-- Demand 3, the clause about d: a built code, by its counts, ends and boundary bytes, is opened with every weight 1, and a crossing called then reports d.
pub record DistanceReported (d vertices edges : ℕ) (ends_a ends_b boundary : List ℕ) : Type 0 where
  pub history : History
  pub vertices_are : history.vertices ≡ vertices
  pub edges_are : history.edges ≡ edges
  pub handed_are : history.handed ≡ graph_columns ends_a ends_b (replicate edges 1) boundary
  pub calls_are : history.calls ≡ []
  pub crossing : CrossingThen history
  pub reports : crossing.reply ≡ Ok d

-- Demand 3 as one claim (Engine, Tally, sentence 1). The quoted words are the demand's where no section is named.
pub record Demand3 : Type 0 where
  -- "This holds after every list of load-erasures, load-weights, reset and crossing calls on a freshly opened graph, refused calls included." For every open, load, reset
  -- and crossing, on any columns, there is an answer, with columns at exit, that its contract permits; that a call ends is part of each function's proof. So every list of
  -- calls on a freshly opened graph has answers and an engine at its end, as `History` has them; one is written out.
  pub open_returns : (vertices edges : ℕ) (handed lent₀ : GraphColumns) → (r : Result EngineCounts Refusal) × (lent : GraphColumns) × OpenReturned vertices edges handed lent₀ r lent
  pub modifying_returns : (call : Call) (e₀ : Engine) → (r : Result EngineCounts Refusal) × (e : Engine) × Called call e₀ r e
  pub crossing_returns : (e : Engine) (weights₀ : List ℤ) (scratch₀ : ScratchColumns)
      → (r : Result ℕ Refusal) × (weights : List ℤ) × (scratch : ScratchColumns) × CrossingReturned e r weights₀ weights scratch₀ scratch
  pub list_returns : (vertices edges : ℕ) (handed : GraphColumns) (fresh : Engine) → OpenCalled vertices edges handed fresh → (list : List CallArguments)
      → (answers : List ℕ) × (at_end : Engine) × Calls fresh (listed_calls (lengths_of fresh) list) answers at_end
  pub one_history : OneHistory
  -- Engine, Open; questions at the door, 6 and 7: an open's number is that of the first of these that is not met, 0 where
  -- both are; it answers the counts handed over, with an empty log, where it is 0, and else zeros.
  pub opened_when : (vertices edges : ℕ) (handed lent₀ : GraphColumns) (r : Result EngineCounts Refusal) (lent : GraphColumns) → OpenReturned vertices edges handed lent₀ r lent
      → Answered (said no_counts r) (open_refusal vertices edges handed lent₀) (counts vertices edges 0) no_counts
  -- Engine, Tally, sentence 11: "A built code may open with any sound weights." Handed the counts, the ends and the boundary bytes that an accepted builder left, whatever
  -- stands past the counts, and weights that meet questions 6 and 7, every open is accepted whose own columns are long enough.
  pub built_opens : (kind d rounds vertices edges : ℕ) (ends_a ends_b boundary : List ℕ) (handed lent₀ : GraphColumns) (r : Result EngineCounts Refusal) (lent : GraphColumns)
      → CodeBuilt kind d rounds vertices edges ends_a ends_b boundary
      → take edges handed.ends_a ≡ take edges ends_a
      → take edges handed.ends_b ≡ take edges ends_b
      → take vertices handed.boundary ≡ take vertices boundary
      → edges ≤ length handed.weights → weights_sound edges handed.weights ≡ true
      → columns_long vertices edges lent₀.ends_a lent₀.ends_b lent₀.weights lent₀.boundary ≡ true
      → OpenReturned vertices edges handed lent₀ r lent
      → r ≡ Ok (counts vertices edges 0)
  -- "Each call is accepted or refused as document 01's questions say."
  pub each_call : (h : History) → h.answers ≡ numbers h.calls (tally_first h)
  pub crossing_then : (h : History) (c : CrossingThen h) → reply_number c.reply ≡ tally_crossing_refusal (lengths_of h.at_end) c.own (tally_last h)
  -- Engine, Tally, sentence 6: the tally's count of log entries, and its other counts, are those that the calls hand back.
  pub counts : (h : History) → h.at_end.counts ≡ (tally_last h).counts
  -- "An edge weighs what an accepted load last named for it since the last accepted reset (0 if erased), else its opening weight."
  pub edge_weighs : (h : History) (k : ℕ) → k < h.edges
      → get_or h.at_end.weights k 0 ≡ weight_by (set_by_calls (modifying h.calls) (tally_numbers (modifying h.calls) (tally_first h)) k) (get_or h.handed.weights k 0)
  -- A load or reset counts as accepted there exactly where it answered 0: the tally's numbers are the answers.
  pub accepted_answers : (h : History) → tally_numbers (modifying h.calls) (tally_first h) ≡ modifying_answers h.calls h.answers
  pub tally_weighs : (h : History) (k : ℕ) → k < h.edges → weights_at_end h k ≡ get_or h.at_end.weights k 0
  -- "Unless a question before 18 refuses it, a crossing called then is accepted exactly when some walk joins a left vertex to a right one."
  pub joined : (h : History) (c : CrossingThen h) → refused_before h c ≡ 0 → (reply_number c.reply ≡ 0) ↔ LeftJoinsRight (graph_at_end h)
  -- "Of all edge sets that leave no defect and meet the left boundary an odd number of times,
  -- none weighs less than the crossing weight that an accepted crossing reports,"
  pub none_less : (h : History) (c : CrossingThen h) → reply_number c.reply ≡ 0
      → (s : List ℕ) → CrossingSet (graph_at_end h) s → reply_weight c.reply ≤ sum s (weights_at_end h)
  -- "and one weighs exactly that."
  pub one_exactly : (h : History) (c : CrossingThen h) → reply_number c.reply ≡ 0
      → (s : List ℕ) × CrossingSet (graph_at_end h) s × (sum s (weights_at_end h) ≡ reply_weight c.reply)
  -- Engine, Crossing, sentence 2: "The weight column then holds the least weight from the left, −1 for unreached."
  pub least_weights : (h : History) (c : CrossingThen h) → reply_number c.reply ≡ 0
      → (v : ℕ) → v < h.vertices → LeftWeight (graph_at_end h) (weights_at_end h) v (weight_in c.column v)
  -- "Where they leave equal weights, accepted crossings report the same crossing weight and, for each vertex, the same least weight from the left;"
  pub equal_weights : (h h' : History) (c : CrossingThen h) (c' : CrossingThen h') → TwoLists h h' c c'
      → ((k : ℕ) → k < h.edges → weights_at_end h k ≡ weights_at_end h' k)
      → (reply_weight c.reply ≡ reply_weight c'.reply) × ((v : ℕ) → v < h.vertices → weight_in c.column v ≡ weight_in c'.column v)
  -- "where one leaves weights nowhere greater, its accepted crossing reports none of these greater than the other's accepted one does."
  pub nowhere_greater : (h h' : History) (c : CrossingThen h) (c' : CrossingThen h') → TwoLists h h' c c'
      → ((k : ℕ) → k < h.edges → weights_at_end h k ≤ weights_at_end h' k)
      → (reply_weight c.reply ≤ reply_weight c'.reply) × ((v : ℕ) → v < h.vertices → NotGreater (weight_in c.column v) (weight_in c'.column v))
  -- "With every weight 1, each built code of distance d reports d." The graph was handed the ends and boundary bytes of the code, whatever stands past the counts,
  -- and any sound weights; the 1s came about by any list of calls.
  pub distance : (h : History) (c : CrossingThen h) (kind d rounds : ℕ) (ends_a ends_b boundary : List ℕ)
      → CodeBuilt kind d rounds h.vertices h.edges ends_a ends_b boundary
      → take h.edges h.handed.ends_a ≡ take h.edges ends_a
      → take h.edges h.handed.ends_b ≡ take h.edges ends_b
      → take h.vertices h.handed.boundary ≡ take h.vertices boundary
      → ((k : ℕ) → k < h.edges → weights_at_end h k ≡ 1) → refused_before h c ≡ 0 → c.reply ≡ Ok d
  -- There is such a history and crossing for every code that was built, and a code that was built for every kind, d and rounds that questions 2 to 5 accept.
  pub distance_reported : (kind d rounds vertices edges : ℕ) (ends_a ends_b boundary : List ℕ)
      → CodeBuilt kind d rounds vertices edges ends_a ends_b boundary → DistanceReported d vertices edges ends_a ends_b boundary
  pub some_code : (kind d rounds : ℕ) → Buildable kind d rounds
      → (vertices : ℕ) × (edges : ℕ) × (ends_a : List ℕ) × (ends_b : List ℕ) × (boundary : List ℕ) × CodeBuilt kind d rounds vertices edges ends_a ends_b boundary
