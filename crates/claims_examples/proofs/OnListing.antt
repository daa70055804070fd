-- Paths and crossings on the listing's graph, from what callers of the real functions learn: the engine holds the graph that was opened, and its path and crossing weight
-- are computed. Assumes nothing.
use mathlib.Core.Path.{◌≡◌, refl, sym, ap, ◌∙◌, subst}
use mathlib.Core.Bool.{true, cond}
use mathlib.Core.List.{List, [], ◌∷◌}
use mathlib.Core.Option.{Option, some}
use Prim.Native.Nat.{ℕ, ◌≤◌, ◌<◌}
use native.Mathlib.Omega.{arith}
use lib.ListN.{length, replicate}
use lib.Dec.{eqb}
use borrow.Author.Tests.{le-leb, lt-ltb}
use Rattle.columns.specs.Lists.{over}
use Rattle.columns.specs.Questions.{ask, all}
use Rattle.columns.proofs.Tests.{both_and}
use Rattle.columns_answers.specs.Said.{said, Answered, accepts, refuses}
use Rattle.engine_columns.specs.declared.EngineCounts.{EngineCounts}
use Rattle.engine_columns.specs.Records.{Engine, counts}
use Rattle.engine_columns.specs.Calls.{load_erasures, load_weights, reset}
use Rattle.engine_columns.proofs.Refusals.{long_from, sound_from}
use Rattle.engine_tally.specs.Tally.{Lengths, Tally, lengths_of, tally_of, tally_long, tally_refusal, tallied, tally_step}
use Rattle.engine_tally.proofs.Agreement.{Agrees, long_same}
use Rattle.engine_walks.specs.Answers.{path, crossing}
use Rattle.query_questions.specs.Queries as Q
use Rattle.query_questions.specs.Scratch.{ScratchColumns, scratch_fits, is_free}
use Rattle.std.specs.Prelude.{Result, Ok}
use Rattle.columns.specs.declared.refusal.Refusal.{Refusal}
use Rattle.query_crossing_answer.specs.Crossing.{weight_found}
use Rattle.query_paths.specs.declared.PathCounts.{PathCounts}
use Rattle.query_paths.specs.GetPath.{path_counts, no_path, path_asked, path_refusal, length_and_total, vertices_after, steps_after, GotPath}
use Rattle.claims.specs.Listed.{CallArguments, modify_by, listed_calls, tally_graph, tally_weights, tally_at_end, numbers}
use Rattle.claims.specs.QueriesCalled.{PathColumns, PathReturned, path_returned}
use Rattle.claims.specs.Called.{OpenCalled}
use Rattle.claims.specs.Demand3.{tally_first}
use Rattle.claims.proofs.Agreeing.{graph_same, weights-same}
use Rattle.claims.proofs.Runs.{fresh_of}
use Rattle.claims.proofs.Questions.{path-number, query_met}
use Rattle.claims.proofs.Proved.{run, found, accepted, reports}
use Rattle.claims_examples.specs.Starred.{listing_graph, PathRoom, CrossesAt}
use Rattle.claims_examples.proofs.Answers.{said-accepts, said-refuses}
use Rattle.claims_examples.proofs.Graph.{written, columns, crossing_2000, crossing_3000, crossing_3, path_3000}

-- ---- paths

module _ (e : Engine) (o : OpenCalled 4 3 listing_graph e) where
  abbrev first : Tally
  first = tally_of 4 3 listing_graph

  agrees : Agrees first e
  agrees = (fresh_of 4 3 listing_graph e o).agrees

  module _ (columns₀ : PathColumns) (scratch₀ : ScratchColumns) (room : PathRoom columns₀ scratch₀) where
    vertices_fit : e.counts.vertices ≤ length columns₀.vertices
    vertices_fit = subst (λ (c : EngineCounts). c.vertices ≤ length columns₀.vertices) (sym agrees.counts_are) room.vertices_long

    steps-fit : e.counts.vertices ≤ length columns₀.steps
    steps-fit = subst (λ (c : EngineCounts). c.vertices ≤ length columns₀.steps) (sym agrees.counts_are) room.steps_long

    scratch_fits_holds : scratch_fits e.counts scratch₀ ≡ true
    scratch_fits_holds = ap (λ (c : EngineCounts). scratch_fits c scratch₀) agrees.counts_are ∙ room.scratch_long_holds

    within : (v : ℕ) → v < 4 → v < e.counts.vertices
    within v h = subst (λ (c : EngineCounts). v < c.vertices) (sym agrees.counts_are) h

    abbrev asked : (a b : ℕ) → ℕ
    asked a b = path_asked e (scratch_fits e.counts scratch₀) a b (length columns₀.vertices) (length columns₀.steps)

    asked_0 : asked 3 2 ≡ 0
    asked_0 = path-number e 3 2 columns₀ scratch₀ (record {
      six_and_seven = record {
        graph_long = long_from 0 e agrees.long;
        written_long = (vertices_fit, (steps-fit, tt));
        scratch_long_holds = scratch_fits_holds;
        graph_sound_holds = sound_from e agrees.sound;
      };
      a_within = within 3 (omega arith);
      b_within = within 2 (omega arith);
      differ = λ q. omega arith;
    })

    asked-16 : asked 2 2 ≡ 16
    asked-16 = query_met e _ _ 16 (long_from 0 e agrees.long) (both_and (le-leb _ _ vertices_fit) (both_and (le-leb _ _ steps-fit) scratch_fits_holds)) (sound_from e agrees.sound)
        (both_and (lt-ltb _ _ (within 2 (omega arith))) (lt-ltb _ _ (within 2 (omega arith))))

    module _ (r : Result PathCounts Refusal) (columns : PathColumns) (scratch : ScratchColumns) where
      abbrev Got : (a b : ℕ) → Type 0
      Got a b = GotPath e a b r columns₀.vertices columns.vertices columns₀.steps columns.steps scratch₀ scratch

      found-path : Got 3 2
          → (said no_path r ≡ accepts (path_counts 3 3000)) × (columns.vertices ≡ over (0 ∷ 1 ∷ 2 ∷ []) columns₀.vertices) × (columns.steps ≡ over (1000 ∷ 1000 ∷ 1000 ∷ []) columns₀.steps)
      found-path h =
          let is : path (Q.graph_in e) (Q.weights_in e) 3 2 ≡ some (record { vertices = 0 ∷ 1 ∷ 2 ∷ []; steps = 1000 ∷ 1000 ∷ 1000 ∷ []; total = 3000 })
          = (λ i. path (graph_same first e agrees i) (weights-same first e agrees i) 3 2) ∙ path_3000 in (
            said-accepts (subst (λ p. Answered (said no_path r) (path_refusal 0 p) (length_and_total p) no_path) is
                (subst (λ q. Answered (said no_path r) (path_refusal q (path (Q.graph_in e) (Q.weights_in e) 3 2)) (length_and_total (path (Q.graph_in e) (Q.weights_in e) 3 2)) no_path) asked_0 h.answers)) refl,
            h.vertices_after_holds ∙ (λ i. cond (eqb (asked_0 i) 0) (vertices_after (is i) columns₀.vertices) columns₀.vertices),
            h.steps_after_holds ∙ (λ i. cond (eqb (asked_0 i) 0) (steps_after (is i) columns₀.steps) columns₀.steps),
          )

      refused-path : Got 2 2 → (said no_path r ≡ refuses 16 no_path) × (columns ≡ columns₀) × (scratch ≡ scratch₀)
      refused-path h =
          let p = path (Q.graph_in e) (Q.weights_in e) 2 2 in
          let v = h.vertices_after_holds ∙ (λ i. cond (eqb (asked-16 i) 0) (vertices_after p columns₀.vertices) columns₀.vertices) in
          let s = h.steps_after_holds ∙ (λ i. cond (eqb (asked-16 i) 0) (steps_after p columns₀.steps) columns₀.steps) in
          let said : said no_path r ≡ refuses 16 no_path = said-refuses 16 h.answers (ap (λ q. path_refusal q p) asked-16) (λ z. omega arith) in
          (said, (λ i. record { vertices = v i; steps = s i }), h.scratch_after.kept (ap (λ x. is_free x.number) said))

got_of : (e : Engine) (a b : ℕ) (r : Result PathCounts Refusal) (columns₀ columns : PathColumns) (scratch₀ scratch : ScratchColumns) → PathReturned e a b r columns₀ columns scratch₀ scratch
    → GotPath e a b r columns₀.vertices columns.vertices columns₀.steps columns.steps scratch₀ scratch
got_of e a b r columns₀ columns scratch₀ scratch (path_returned κs x q s h) = h

pub path_called : (e : Engine) (r : Result PathCounts Refusal) (columns₀ columns : PathColumns) (scratch₀ scratch : ScratchColumns) → OpenCalled 4 3 listing_graph e
    → PathReturned e 3 2 r columns₀ columns scratch₀ scratch → PathRoom columns₀ scratch₀
    → (said no_path r ≡ accepts (path_counts 3 3000)) × (columns.vertices ≡ over (0 ∷ 1 ∷ 2 ∷ []) columns₀.vertices) × (columns.steps ≡ over (1000 ∷ 1000 ∷ 1000 ∷ []) columns₀.steps)
path_called e r columns₀ columns scratch₀ scratch o c room = found-path e o columns₀ scratch₀ room r columns scratch (got_of e 3 2 r columns₀ columns scratch₀ scratch c)

pub path_refused : (e : Engine) (r : Result PathCounts Refusal) (columns₀ columns : PathColumns) (scratch₀ scratch : ScratchColumns) → OpenCalled 4 3 listing_graph e
    → PathReturned e 2 2 r columns₀ columns scratch₀ scratch → PathRoom columns₀ scratch₀
    → (said no_path r ≡ refuses 16 no_path) × (columns ≡ columns₀) × (scratch ≡ scratch₀)
path_refused e r columns₀ columns scratch₀ scratch o c room = refused-path e o columns₀ scratch₀ room r columns scratch (got_of e 2 2 r columns₀ columns scratch₀ scratch c)

-- ---- crossings

-- room in the log for three entries
abbrev Roomy : Lengths → Type 0
Roomy k = (n : ℕ) → n ≤ 3 → tally_long n k (counts 4 3 0) ≡ true

-- what the tally says of a list, and the crossing weight after it
record After (list : List CallArguments) (weight : ℕ) : Type 0 where
  pub all_accepted : (k : Lengths) → Roomy k → numbers (listed_calls k list) (tally_of 4 3 written) ≡ replicate (length list) 0
  pub weighs : (k : Lengths) → Roomy k
      → crossing (tally_graph (tally_at_end (listed_calls k list) (tally_of 4 3 written))) (tally_weights (tally_at_end (listed_calls k list) (tally_of 4 3 written))) ≡ some weight

crosses_at : (list : List CallArguments) (weight : ℕ) → After list weight → CrossesAt list weight
crosses_at list weight x h c on asked =
    let k = lengths_of h.fresh in
    let first-is : tally_first h ≡ tally_of 4 3 written = (λ i. tally_of (on.vertices_are i) (on.edges_are i) (on.handed_are i)) ∙ ap (tally_of 4 3) columns in
    let a : Agrees (tally_of 4 3 written) h.fresh = subst (λ t. Agrees t h.fresh) first-is (fresh_of h.vertices h.edges h.handed h.fresh h.opened).agrees in
    let entries : h.fresh.counts.entries ≡ 0 = ap (λ (n : EngineCounts). n.entries) a.counts_are in
    let room : Roomy k = λ n l. sym (long_same n h.fresh (counts 4 3 0) a.counts_are) ∙ long_from n h.fresh (record {
      columns = a.long.columns;
      log_edges = omega (arith, on.log_edges_long, entries, l);
      log_weights = omega (arith, on.log_weights_long, entries, l);
    }) in
    let f : found h ≡ some weight = (λ i. crossing (tally_graph (tally_at_end (on.calls_are i) (first-is i))) (tally_weights (tally_at_end (on.calls_are i) (first-is i)))) ∙ x.weighs k room in
    let (W, is, r, column) = reports h c (accepted h c asked weight f) in
    ((run h).0 ∙ (λ i. numbers (on.calls_are i) (first-is i)) ∙ x.all_accepted k room, r ∙ ap (λ o. Ok (weight_found o)) (sym is ∙ f))

module _ (k : Lengths) (room : Roomy k) where
  abbrev fresh : Tally
  fresh = tally_of 4 3 written

  erase-asked : tally_refusal (load_erasures (1 ∷ [])) k fresh ≡ 0
  unfolding all
  erase-asked = λ i. ask (room 1 (omega arith) i) 6 0

  erased : tally_step (record { call = load_erasures (1 ∷ []); lent = k }) fresh ≡ tallied (load_erasures (1 ∷ [])) fresh
  erased = ap (λ n. cond (eqb n 0) (tallied (load_erasures (1 ∷ [])) fresh) fresh) erase-asked

  reset-asked : tally_refusal reset k (tallied (load_erasures (1 ∷ [])) fresh) ≡ 0
  reset-asked = λ i. ask (room 1 (omega arith) i) 6 0

  was-reset : tally_step (record { call = reset; lent = k }) (tallied (load_erasures (1 ∷ [])) fresh) ≡ tallied reset (tallied (load_erasures (1 ∷ [])) fresh)
  was-reset = ap (λ n. cond (eqb n 0) (tallied reset (tallied (load_erasures (1 ∷ [])) fresh)) (tallied (load_erasures (1 ∷ [])) fresh)) reset-asked

  abbrev ones : List ℕ
  ones = 1 ∷ 1 ∷ 1 ∷ []

  abbrev every : List ℕ
  every = 0 ∷ 1 ∷ 2 ∷ []

  weigh-asked : tally_refusal (load_weights every ones) k fresh ≡ 0
  unfolding all
  weigh-asked = λ i. ask (room 3 (omega arith) i) 6 0

  weighed : tally_step (record { call = load_weights every ones; lent = k }) fresh ≡ tallied (load_weights every ones) fresh
  weighed = ap (λ n. cond (eqb n 0) (tallied (load_weights every ones) fresh) fresh) weigh-asked

abbrev crossing_in : Tally → Option ℕ
crossing_in t = crossing (tally_graph t) (tally_weights t)

pub erased_called : CrossesAt (modify_by (load_erasures (1 ∷ [])) ∷ []) 2000
erased_called = crosses_at _ 2000 (record {
  all_accepted = λ k room i. erase-asked k room i ∷ [];
  weighs = λ k room. ap crossing_in (erased k room) ∙ crossing_2000;
})

pub reset_called : CrossesAt (modify_by (load_erasures (1 ∷ [])) ∷ modify_by reset ∷ []) 3000
reset_called = crosses_at _ 3000 (record {
  all_accepted = λ k room. (λ i. erase-asked k room i ∷ tally_refusal reset k (erased k room i) ∷ []) ∙ (λ i. 0 ∷ reset-asked k room i ∷ []);
  weighs = λ k room. ap (λ t. crossing_in (tally_step (record { call = reset; lent = k }) t)) (erased k room) ∙ ap crossing_in (was-reset k room) ∙ crossing_3000;
})

pub ones_called : CrossesAt (modify_by (load_weights (0 ∷ 1 ∷ 2 ∷ []) (1 ∷ 1 ∷ 1 ∷ [])) ∷ []) 3
ones_called = crosses_at _ 3 (record {
  all_accepted = λ k room i. weigh-asked k room i ∷ [];
  weighs = λ k room. ap crossing_in (weighed k room) ∙ crossing_3;
})
