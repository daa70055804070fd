-- What the crossing query answers to the columns of a built code. Assumes nothing.
use mathlib.Core.Path.{◌≡◌, refl, sym, ap, ◌∙◌, subst}
use mathlib.Core.Bool.{Bool, true, ◌&&◌}
use mathlib.Core.List.{List, [], ◌∷◌, ◌++◌}
use mathlib.Core.Option.{Option}
use Prim.Native.Nat.{ℕ, ◌+◌, ◌*◌, ◌≤◌}
use native.Mathlib.Omega.{arith}
use lib.Dec.{leb}
use lib.ListN.{length, get_or, take, drop, length-map, length-take, take-append-drop}
use borrow.Author.Tests.{le-leb}
use Rattle.columns.specs.Limits.{weight_limit}
use Rattle.columns.specs.Lists.{over}
use Rattle.columns.specs.Questions.{ask, all, boundaries_sound}
use Rattle.columns.proofs.Tests.{both_and}
use Rattle.columns_neighbors.specs.Sound.{graph_sound, log_sound}
use Rattle.engine_columns.specs.Records.{Engine, engine, counts}
use Rattle.columns_room.specs.Room.{three_long}
use Rattle.engine_columns.specs.Questions.{columns_long, engine_long, columns_sound, engine_sound}
use Rattle.engine_walks.specs.Answers.{crossing}
use Rattle.codes_writers.specs.declared.CodeVertex.{CodeVertex}
use Rattle.codes_writers.specs.Edges.{Ends, firsts, seconds, boundaries}
use Rattle.codes_layers.specs.Codes.{edges_of, vertices_of}
use Rattle.codes_layers.specs.Counts.{edge_num}
use Rattle.codes_layers.proofs.Accepted.{accepted}
use Rattle.codes_layers.proofs.Counted.{edges-counted, vertices-counted}
use Rattle.codes_graphs.specs.Graphs.{built_graph}
use Rattle.codes_graphs.proofs.Sound.{built}
use Rattle.std.specs.Prelude.{Result}
use Rattle.columns.specs.declared.refusal.Refusal.{Refusal}
use Rattle.query_questions.specs.Queries.{graph_in, weights_in}
use Rattle.query_crossing_answer.specs.Crossing.{is_joined, weight_found, crossing_refusal}
use Rattle.columns_answers.specs.Said.{said, Answered}
use Rattle.text_listing.specs.Listing.{weights_of, crossing_of}
use Rattle.text_listing.specs.Steps.{HoldsWeights, ScratchRoom, Replied}
use Rattle.query_questions.specs.Scratch.{ScratchLengths, scratch_long}

-- a column is its own first places and the rest
whole : {A : Type 0} (n : ℕ) (column vs : List A) → take n column ≡ vs → n ≤ length column → column ≡ over vs column
whole n column vs e l =
    let size : length vs ≡ n = ap length (sym e) ∙ length-take n column ∙ omega arith in
    sym (take-append-drop n column) ∙ (λ i. e i ++ drop (sym size i) column)

module _ (kind d rounds : ℕ) (p : _) (max v e : ℕ) (a b w m : List ℕ) (s : HoldsWeights kind d rounds p max v e a b w m) where
  abbrev the-engine : List ℕ → List ℕ → Engine
  the-engine le lw = engine (counts v e 0) a b w m le lw

  long_a : e ≤ length a
  long_a = omega (arith, ap length s.in_a, length-take e a, length-map (edges_of kind d rounds) (λ (x : Ends). x.0), edges-counted kind d (accepted kind d rounds 0 s.code).0.distance.three rounds, s.edges)

  long_b : e ≤ length b
  long_b = omega (arith, ap length s.in_b, length-take e b, length-map (edges_of kind d rounds) (λ (x : Ends). x.1), edges-counted kind d (accepted kind d rounds 0 s.code).0.distance.three rounds, s.edges)

  long_m : v ≤ length m
  long_m = omega (arith, ap length s.in_m, length-take v m, length-map (vertices_of kind d rounds) (λ (x : CodeVertex). x.boundary), vertices-counted kind d (accepted kind d rounds 0 s.code).0.distance.three rounds, s.vertices)

  long-w : e ≤ length w
  unfolding weights_of Rattle.access_vertices.specs.Weights.weights
  long-w = omega (arith, ap length s.in_w, length-take e w, Rattle.columns.proofs.Counting.length-each (edge_num kind d rounds) (λ k. 2 * get_or (Rattle.weights_calls.specs.Calls.half_weights max (Rattle.codes_calls.specs.Probabilities.probabilities kind d rounds p (Rattle.codes_calls.specs.Probabilities.diagonal_of kind p))) k 0), s.edges)

  pub lengths : (e ≤ length a) × (e ≤ length b) × (e ≤ length w) × (v ≤ length m)
  lengths = (long_a, long_b, long-w, long_m)

  graph_sound_holds : graph_sound v e a b ≡ true
  graph_sound_holds =
      (λ i. graph_sound (s.vertices i) (s.edges i) (whole e a (firsts (edges_of kind d rounds)) s.in_a long_a i) (whole e b (seconds (edges_of kind d rounds)) s.in_b long_b i))
      ∙ (built kind d rounds (accepted kind d rounds 0 s.code).0).graph a b

  boundary-sound : boundaries_sound v m ≡ true
  boundary-sound =
      (λ i. boundaries_sound (s.vertices i) (whole v m (boundaries (vertices_of kind d rounds)) s.in_m long_m i)) ∙ (built kind d rounds (accepted kind d rounds 0 s.code).0).boundary m

  no-log : (le lw : List ℕ) → log_sound e 0 le lw ≡ true
  unfolding log_sound all
  no-log le lw = both_and (none' (λ x. lib.Dec.ltb x e) le) (none' (λ x. leb x weight_limit) lw)
    where
      none' : (test : ℕ → Bool) (xs : List ℕ) → all test (take 0 xs) ≡ true
      none' test [] = refl
      none' test (x ∷ xs) = refl

  engine-sound : (le lw : List ℕ) → engine_sound (the-engine le lw) ≡ true
  unfolding engine_sound columns_sound
  engine-sound le lw = both_and (both_and graph_sound_holds (both_and s.few_w boundary-sound)) (no-log le lw)

  engine-long : (le lw : List ℕ) → engine_long 0 (the-engine le lw) ≡ true
  unfolding engine_long columns_long three_long
  engine-long le lw =
      both_and (both_and (both_and (le-leb e (length a) long_a) (both_and (le-leb e (length b) long_b) (le-leb e (length w) long-w))) (le-leb v (length m) long_m))
      (both_and (le-leb (0 + 0) (length le) (omega arith)) (le-leb (0 + 0) (length lw) (omega arith)))

  scratch_long_holds : (out : ℕ) (l : ScratchLengths) → ScratchRoom out l → (leb v out && scratch_long (counts v e 0) l) ≡ true
  unfolding scratch_long
  scratch_long_holds out l r =
      both_and (le-leb v out (omega (arith, s.few_vertices, r.out_room)))
      (both_and (le-leb (2 * e) l.neighbor_numbers (omega (arith, s.few_edges, r.numbers_room)))
      (both_and (le-leb v l.list_ends (omega (arith, s.few_vertices, r.ends_room)))
      (both_and (le-leb v l.status (omega (arith, s.few_vertices, r.status_room)))
      (both_and (le-leb v l.weight (omega (arith, s.few_vertices, r.weight_room)))
      (both_and (le-leb v l.previous (omega (arith, s.few_vertices, r.previous_room)))
      (both_and (le-leb v l.node (omega (arith, s.few_vertices, r.node_room))) (le-leb v l.leaf (omega (arith, s.few_vertices, r.leaf_room)))))))))

  same_graph : (le lw : List ℕ) → graph_in (the-engine le lw) ≡ built_graph kind d rounds
  unfolding built_graph
  same_graph le lw = λ i. record { vertices = s.vertices i; ends_a = s.in_a i; ends_b = s.in_b i; boundary = s.in_m i }

  same-crossing : (le lw : List ℕ) → crossing (graph_in (the-engine le lw)) (weights_in (the-engine le lw)) ≡ crossing_of kind d rounds p max
  unfolding crossing_of
  same-crossing le lw = λ i. crossing (same_graph le lw i) (λ k. get_or (s.in_w i) k 0)

  pub replied : (le lw : List ℕ) (out : ℕ) (l : ScratchLengths) (r : Result ℕ Refusal) → ScratchRoom out l
      → Answered (said 0 r) (crossing_refusal (the-engine le lw) (scratch_long (counts v e 0) l) out) (weight_found (crossing (graph_in (the-engine le lw)) (weights_in (the-engine le lw)))) 0
      → Replied kind d rounds p max r
  replied le lw out l r room q =
      let o : Option ℕ = crossing (graph_in (the-engine le lw)) (weights_in (the-engine le lw)) in
      let number : crossing_refusal (the-engine le lw) (scratch_long (counts v e 0) l) out ≡ ask (is_joined o) 18 0 =
      λ i. ask (both_and (engine-long le lw) (scratch_long_holds out l room) i) 6 (ask (engine-sound le lw i) 7 (ask (is_joined o) 18 0)) in
      subst (λ (c : Option ℕ). Answered (said 0 r) (ask (is_joined c) 18 0) (weight_found c) 0) (same-crossing le lw)
      (subst (λ (n : ℕ). Answered (said 0 r) n (weight_found o) 0) number q)
