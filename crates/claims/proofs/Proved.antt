-- Demand 3. Assumes nothing.
use mathlib.Core.Path.{◌≡◌, refl, sym, ap, ◌∙◌, subst}
use mathlib.Core.Logic.{◌↔◌}
use mathlib.Core.Bool.{true}
use mathlib.Core.List.{List, [], ◌∷◌}
use mathlib.Core.Option.{Option, some, none}
use Prim.Native.Nat.{ℕ, ◌*◌, ◌≤◌, ◌<◌}
use native.Mathlib.Omega.{arith}
use lib.ListN.{length, get_or, take, replicate, length-replicate, get_or-replicate}
use lib.Seq.{take_all}
use borrow.Author.Tests.{le-leb}
use lib.IntN.{ℤ, pos}
use Rattle.columns.specs.Lists.{each, over}
use Rattle.columns.specs.Limits.{weight_limit}
use Rattle.columns.specs.Questions.{ask, all, all_within, weights_sound}
use Rattle.columns.proofs.Tests.{both_and, at_within}
use Rattle.columns_room.specs.Room.{three_long}
use Rattle.std.specs.Prelude.{Ok}
use Rattle.engine_columns.specs.Records.{Engine, engine, counts}
use Rattle.engine_columns.specs.Calls.{load_erasures, load_weights}
use Rattle.engine_columns.specs.Open.{GraphColumns, graph_columns, open_refusal}
use Rattle.engine_columns.proofs.Refusals.{columns-long-from, long_from}
use Rattle.engine_tally.specs.Tally.{lengths_of}
use Rattle.engine_tally.proofs.Agreement.{Agrees, long_same}
use Rattle.engine_tally.proofs.LastNamed.{weighs_last_named}
use Rattle.engine_walks.specs.Graph.{Graph, edges, GraphInRange, LeftJoinsRight}
use Rattle.engine_walks.specs.Settling as S
use Rattle.engine_walks.specs.Settling.{first_least, start, changes, by_status, offer, relax_edge, relax, stopped, next, settle}
use Rattle.engine_walks.specs.Answers.{from_left, nearest_right, crossing, least_from_left, weight_in}
use Rattle.engine_walks.specs.Claims.{CrossingAnswer, IsCrossing, LeftWeight, NotGreater, reached, signed}
use Rattle.engine_walks.proofs.LeastCrossing.{crossing_is_least}
use Rattle.engine_walks.proofs.TwoGraphs.{weights_compare}
use Rattle.query_questions.specs.Scratch.{ScratchColumns, scratch_of, scratch_long}
use Rattle.query_crossing_answer.specs.Crossing.{reply_number, reply_weight, weight_found}
use Rattle.claims.specs.Listed.{CallArguments, modify_by, cross_with, listed_calls, own_lengths, tally_graph, crossing_long, before18, tally_crossing_refusal, modifying, modifying_answers, numbers}
use Rattle.claims.specs.Called.{OpenReturned, open_called, crossing_called, no_call}
use Rattle.claims.specs.Demand3.{OneHistory, DistanceReported, History, CrossingThen, TwoLists, tally_first, tally_last, graph_at_end, weights_at_end, refused_before, Demand3}
use Rattle.claims.proofs.Agreeing.{CrossingBy, range, edges_are, weight-at, crossing-number, accepted-of, accepted-when, column-at, graph_kept}
use Rattle.claims.proofs.Runs.{FreshGraph, opened_of, fresh_of, crossing_of, runs, modifying-numbers}
use Rattle.claims.proofs.Returns.{one_edge, one_edge_opened, open_returns, accepted_open, modifying_returns, crossing_returns, list_returns, lengths_at_end}
use Rattle.claims.proofs.SomeCode.{some_code}
use Rattle.claims.proofs.Built.{BuiltGraph, built_of, handed_on, built_distance, built-long, built-accepted}

module _ (h : History) where
  fresh : FreshGraph h.vertices h.edges h.handed h.fresh
  fresh = fresh_of h.vertices h.edges h.handed h.fresh h.opened

  pub run : (h.answers ≡ numbers h.calls (tally_first h)) × Agrees (tally_last h) h.at_end
  run = runs h.fresh h.calls h.answers h.at_end (tally_first h) fresh.agrees h.called

  agrees : Agrees (tally_last h) h.at_end
  agrees = run.1

  edges-kept : (tally_last h).counts.edges ≡ h.edges
  edges-kept = (graph_kept (modifying h.calls) (tally_first h)).1

  graph-first : graph_at_end h ≡ tally_graph (tally_first h)
  graph-first = (graph_kept (modifying h.calls) (tally_first h)).0

  vertices-kept : (tally_last h).counts.vertices ≡ h.vertices
  vertices-kept = ap (λ (g : Graph). g.vertices) graph-first

  in_range : GraphInRange (graph_at_end h)
  in_range = range (tally_last h) h.at_end agrees

  edges-left : edges (graph_at_end h) ≡ h.edges
  edges-left = edges_are (tally_last h) h.at_end agrees ∙ edges-kept

  tally_weighs : (k : ℕ) → k < h.edges → weights_at_end h k ≡ get_or h.at_end.weights k 0
  tally_weighs k l = weight-at (tally_last h) h.at_end agrees k (omega (arith, edges-kept, l))

  abbrev pub found : Option ℕ
  found = crossing (graph_at_end h) (weights_at_end h)

  least : CrossingAnswer (graph_at_end h) (weights_at_end h) found
  least = (crossing_is_least (graph_at_end h) (weights_at_end h) in_range).0

  module _ (c : CrossingThen h) where
    step : CrossingBy h.at_end c.own c.reply c.column₀ c.column
    step = crossing_of h.at_end c.own c.reply c.column₀ c.column c.called

    number : reply_number c.reply ≡ tally_crossing_refusal (lengths_of h.at_end) c.own (tally_last h)
    number = crossing-number (tally_last h) h.at_end agrees c.own c.reply c.column₀ c.column step

    abbrev pub Reports : Type 0
    Reports = (W : ℕ) × (found ≡ some W) × (c.reply ≡ Ok W) × (c.column ≡ over (least_from_left (graph_at_end h) (weights_at_end h)) c.column₀)

    pub reports : reply_number c.reply ≡ 0 → Reports
    reports = accepted-of (tally_last h) h.at_end agrees c.own c.reply c.column₀ c.column step

    pub accepted : refused_before h c ≡ 0 → (W : ℕ) → found ≡ some W → reply_number c.reply ≡ 0
    accepted = accepted-when (tally_last h) h.at_end agrees c.own c.reply c.column₀ c.column step

    at : reply_number c.reply ≡ 0 → (v : ℕ) → v < h.vertices → weight_in c.column v ≡ weight_in (least_from_left (graph_at_end h) (weights_at_end h)) v
    at z v l = column-at (tally_last h) h.at_end agrees c.own c.reply c.column₀ c.column step v (omega (arith, vertices-kept, l)) (reports z).3

    is_crossing : reply_number c.reply ≡ 0 → IsCrossing (graph_at_end h) (weights_at_end h) (reply_weight c.reply)
    is_crossing z =
        let (W, f, r, q) = reports z in
        subst (IsCrossing (graph_at_end h) (weights_at_end h)) (sym (ap reply_weight r)) (subst (CrossingAnswer (graph_at_end h) (weights_at_end h)) f least)

    joined : refused_before h c ≡ 0 → (reply_number c.reply ≡ 0) ↔ LeftJoinsRight (graph_at_end h)
    joined b = (there, back)
      where
        there : reply_number c.reply ≡ 0 → LeftJoinsRight (graph_at_end h)
        there z = let (x, y, s, l, r, w, q) = (is_crossing z).walk.a_walk in (x, y, l, r, (s, w))

        by : (o : Option ℕ) → found ≡ o → CrossingAnswer (graph_at_end h) (weights_at_end h) o → LeftJoinsRight (graph_at_end h) → reply_number c.reply ≡ 0
        by none q f (x, y, l, r, j) = absurd (f x y l r j)
        by (some W) q f j = accepted b W q

        back : LeftJoinsRight (graph_at_end h) → reply_number c.reply ≡ 0
        back j = by found refl least j

    distance : (kind d rounds : ℕ) → BuiltGraph kind d rounds h.vertices h.edges h.handed.ends_a h.handed.ends_b h.handed.boundary
        → ((k : ℕ) → k < h.edges → weights_at_end h k ≡ 1) → refused_before h c ≡ 0 → c.reply ≡ Ok d
    distance kind d rounds b ones z =
        let same = (weights_compare (graph_at_end h) (graph_at_end h) (weights_at_end h) (λ k. 1) in_range
        (record { same_vertices = refl; same_edges = refl; same_a = λ e l. refl; same_b = λ e l. refl; same_byte = λ v l. refl })).1 in
        let f : found ≡ some d = (same (λ e l. ones e (omega (arith, edges-left, l)))).crossings
        ∙ ap (λ (g : Graph). crossing g (λ k. 1)) graph-first
        ∙ built_distance kind d rounds h.vertices h.edges h.handed b in
        let (W, q, r, k) = reports (accepted z d f) in
        r ∙ ap Ok (same_some W d (sym q ∙ f))
      where
        same_some : (x y : ℕ) → some x ≡ some y → x ≡ y
        same_some x y p = ap weight_found p

-- ---- two lists

not_above : {k k' : ℕ} → NotGreater (pos k) (pos k') → k ≤ k'
not_above (reached l) = l

module _ (h h' : History) (c : CrossingThen h) (c' : CrossingThen h') (two : TwoLists h h' c c') where
  inside : (v : ℕ) → v < h.vertices → v < h'.vertices
  inside v l = omega (arith, vertices-kept h, vertices-kept h', two.alike.same_vertices, l)

  equal_weights : ((k : ℕ) → k < h.edges → weights_at_end h k ≡ weights_at_end h' k)
      → (reply_weight c.reply ≡ reply_weight c'.reply) × ((v : ℕ) → v < h.vertices → weight_in c.column v ≡ weight_in c'.column v)
  equal_weights same =
      let q = (weights_compare (graph_at_end h) (graph_at_end h') (weights_at_end h) (weights_at_end h') (in_range h) two.alike).1 (λ e l. same e (omega (arith, edges-left h, l))) in
      let (W, f, r, k) = reports h c two.accepted in
      let (W', f', r', k') = reports h' c' two.accepted' in (
        ap reply_weight r ∙ ap weight_found (sym f ∙ q.crossings ∙ f') ∙ sym (ap reply_weight r'),
        λ v l. at h c two.accepted v l ∙ ap (λ (column : List ℤ). weight_in column v) q.columns ∙ sym (at h' c' two.accepted' v (inside v l)),
      )

  nowhere_greater : ((k : ℕ) → k < h.edges → weights_at_end h k ≤ weights_at_end h' k)
      → (reply_weight c.reply ≤ reply_weight c'.reply) × ((v : ℕ) → v < h.vertices → NotGreater (weight_in c.column v) (weight_in c'.column v))
  nowhere_greater less =
      let q = (weights_compare (graph_at_end h) (graph_at_end h') (weights_at_end h) (weights_at_end h') (in_range h) two.alike).2 (λ e l. less e (omega (arith, edges-left h, l))) in
      let (W, f, r, k) = reports h c two.accepted in
      let (W', f', r', k') = reports h' c' two.accepted' in
      let n : W ≤ W' = not_above (subst (λ o. NotGreater (signed o) (pos W')) f (subst (λ o. NotGreater (signed (crossing (graph_at_end h) (weights_at_end h))) (signed o)) f' q.crossings)) in (
        omega (arith, ap reply_weight r, ap reply_weight r', n),
        λ v l. subst (λ x. NotGreater x (weight_in c'.column v)) (sym (at h c two.accepted v l))
            (subst (λ x. NotGreater (weight_in (least_from_left (graph_at_end h) (weights_at_end h)) v) x) (sym (at h' c' two.accepted' v (inside v l))) (q.columns v (omega (arith, vertices-kept h, l)))),
      )

-- ---- one history

abbrev room : List ℕ
room = 0 ∷ 0 ∷ []

abbrev scratch : ScratchColumns
scratch = scratch_of room room room room room room room

abbrev two_weights : List ℤ
two_weights = pos 0 ∷ pos 0 ∷ []

abbrev list : List CallArguments
list = modify_by (load_weights (0 ∷ []) (3 ∷ [])) ∷ cross_with two_weights scratch ∷ modify_by (load_erasures (0 ∷ [])) ∷ []

abbrev fresh_edge : Engine
fresh_edge = engine (counts 2 1 0) (0 ∷ []) (1 ∷ []) (5 ∷ []) (1 ∷ 2 ∷ []) room room

one : History
one =
    let (ns, e, c) = list_returns list (lengths_of fresh_edge) fresh_edge refl in
    record {
      vertices = 2;
      edges = 1;
      handed = one_edge;
      fresh = fresh_edge;
      calls = listed_calls (lengths_of fresh_edge) list;
      answers = ns;
      at_end = e;
      opened = open_called (counts 2 1 0) room room one_edge_opened;
      called = c;
    }

one_found : found one ≡ some 3
unfolding one each all three_long first_least start changes by_status offer relax_edge relax S.take_vertex stopped next settle from_left nearest_right crossing
one_found = refl

one-numbers : numbers one.calls (tally_first one) ≡ 0 ∷ 0 ∷ 12 ∷ []
unfolding one each all three_long scratch_long first_least start changes by_status offer relax_edge relax S.take_vertex stopped next settle from_left nearest_right crossing
one-numbers = refl

one-crossing : CrossingThen one
one-crossing =
    let (r, column, left, c) = crossing_returns one.at_end two_weights scratch in
    record { own = own_lengths two_weights scratch; reply = r; column₀ = two_weights; column = column; called = crossing_called scratch left c }

one_asked : refused_before one one-crossing ≡ 0
unfolding one one-crossing three_long scratch_long all
one_asked = ap (λ k. before18 k (own_lengths two_weights scratch) (tally_last one)) (lengths_at_end one.fresh one.calls one.answers one.at_end one.called)

one_history : OneHistory
unfolding one
one_history = record {
  history = one;
  vertices_are = refl;
  edges_are = refl;
  handed_are = refl;
  weights = two_weights;
  scratch = scratch;
  calls_are = refl;
  answers_are = (run one).0 ∙ one-numbers;
  crossing = one-crossing;
  reports =
      let (W, f, r, k) = reports one one-crossing (accepted one one-crossing one_asked 3 one_found) in
      r ∙ ap (λ o. Ok (weight_found o)) (sym f ∙ one_found);
}

-- ---- a built code, opened with every weight 1

module _ (kind d rounds v e : ℕ) (a b m : List ℕ) (g : BuiltGraph kind d rounds v e a b m) where
  abbrev ones : List ℕ
  ones = replicate e 1

  abbrev code : GraphColumns
  code = graph_columns a b ones m

  ones-long : e ≤ length ones
  ones-long = omega (arith, length-replicate {A = ℕ} e 1)

  ones-whole : take e ones ≡ ones
  ones-whole = take_all e ones (omega (arith, length-replicate {A = ℕ} e 1))

  ones_sound : weights_sound e ones ≡ true
  ones_sound = ap (all_within weight_limit) ones-whole ∙ at_within weight_limit ones (λ i h. omega (arith, get_or-replicate {A = ℕ} e i 1 0 (omega (arith, length-replicate {A = ℕ} e 1, h))))

  code-accepted : open_refusal v e code code ≡ 0
  code-accepted = built-accepted kind d rounds v e a b m g ones code ones-long ones_sound (columns-long-from v e a b ones m (built-long kind d rounds v e a b m g ones ones-long))

  code-opened : (lent : GraphColumns) × OpenReturned v e code code (Ok (counts v e 0)) lent
  code-opened =
      let (r, lent, o) = open_returns v e code code in
      (lent, subst (λ x. OpenReturned v e code code x lent) (accepted_open v e code code r lent o code-accepted) o)

  abbrev freshCode : Engine
  freshCode = engine (counts v e 0) code-opened.0.ends_a code-opened.0.ends_b code-opened.0.weights code-opened.0.boundary [] []

  abbrev code-history : History
  code-history = record {
    vertices = v;
    edges = e;
    handed = code;
    fresh = freshCode;
    calls = [];
    answers = [];
    at_end = freshCode;
    opened = open_called (counts v e 0) [] [] code-opened.1;
    called = no_call;
  }

  abbrev code-weights : List ℤ
  code-weights = replicate v (pos 0)

  abbrev code-scratch : ScratchColumns
  code-scratch = let c = replicate {A = ℕ} v 0 in scratch_of (replicate (2 * e) 0) c c c c c c

  code-crossing : CrossingThen code-history
  code-crossing =
      let (r, column, left, c) = crossing_returns freshCode code-weights code-scratch in
      record { own = own_lengths code-weights code-scratch; reply = r; column₀ = code-weights; column = column; called = crossing_called code-scratch left c }

  code-long : crossing_long (lengths_of freshCode) (own_lengths code-weights code-scratch) (counts v e 0) ≡ true
  unfolding scratch_long
  code-long =
      let c = le-leb v (length (replicate {A = ℕ} v 0)) (omega (arith, length-replicate {A = ℕ} v 0)) in
      both_and (sym (long_same 0 freshCode (counts v e 0) refl) ∙ long_from 0 freshCode (agrees code-history).long)
      (both_and (le-leb v (length code-weights) (omega (arith, length-replicate v (pos 0))))
      (both_and (le-leb (2 * e) _ (omega (arith, length-replicate {A = ℕ} (2 * e) 0))) (both_and c (both_and c (both_and c (both_and c (both_and c c)))))))

  code-asked : refused_before code-history code-crossing ≡ 0
  unfolding code-crossing
  code-asked = λ i. ask (code-long i) 6 0

  distance_reported : DistanceReported d v e a b m
  distance_reported = record {
    history = code-history;
    vertices_are = refl;
    edges_are = refl;
    handed_are = refl;
    calls_are = refl;
    crossing = code-crossing;
    reports = distance code-history code-crossing kind d rounds g (λ k l. ap (λ (w : List ℕ). get_or w k 0) ones-whole ∙ get_or-replicate e k 1 0 l) code-asked;
  }

-- the demand
pub demand_3 : Demand3
demand_3 = record {
  open_returns = open_returns;
  modifying_returns = modifying_returns;
  crossing_returns = crossing_returns;
  list_returns = λ v e handed fresh o list. list_returns list (lengths_of fresh) fresh refl;
  one_history = one_history;
  opened_when = λ v e handed lent₀ r lent o. (opened_of v e handed lent₀ r lent o).answers;
  built_opens = λ kind d rounds v e a b m handed lent₀ r lent built same_a same_b same-m l s t o.
      accepted_open v e handed lent₀ r lent o
      (built-accepted kind d rounds v e handed.ends_a handed.ends_b handed.boundary (handed_on (built_of kind d rounds v e a b m built) same_a same_b same-m) handed.weights lent₀ l s t);
  each_call = λ h. (run h).0;
  crossing_then = number;
  counts = λ h. (agrees h).counts_are;
  edge_weighs = λ h k l. sym (tally_weighs h k l) ∙ weighs_last_named h.vertices h.edges h.handed (fresh h).weights_long (modifying h.calls) k l;
  accepted_answers = λ h. modifying-numbers h.calls (tally_first h) ∙ ap (modifying_answers h.calls) (sym (run h).0);
  tally_weighs = tally_weighs;
  joined = joined;
  none_less = λ h c z. (is_crossing h c z).every_set;
  one_exactly = λ h c z. (is_crossing h c z).a_set;
  least_weights = λ h c z v l. subst (LeftWeight (graph_at_end h) (weights_at_end h) v) (sym (at h c z v l))
      ((crossing_is_least (graph_at_end h) (weights_at_end h) (in_range h)).2 v (omega (arith, vertices-kept h, l)));
  equal_weights = equal_weights;
  nowhere_greater = nowhere_greater;
  distance = λ h c kind d rounds a b m built same_a same_b same-m.
      distance h c kind d rounds (handed_on (built_of kind d rounds h.vertices h.edges a b m built) same_a same_b same-m);
  distance_reported = λ kind d rounds v e a b m built. distance_reported kind d rounds v e a b m (built_of kind d rounds v e a b m built);
  some_code = some_code;
}
