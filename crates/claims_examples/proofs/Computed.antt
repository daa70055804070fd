-- Document 01's starred examples, by computation. Assumes nothing.
use Rattle.columns.specs.declared.refusal.Refusal.TheVariants.{BadDistance}
use Rattle.std.specs.Prelude.{Err}
use mathlib.Core.Path.{◌≡◌, refl, ap, ◌∙◌}
use mathlib.Core.Bool.{true, ◌&&◌}
use mathlib.Core.List.{List, [], ◌∷◌, map}
use mathlib.Core.Option.{Option, some}
use Prim.Native.Nat.{ℕ, zero, suc, ◌≤◌}
use native.Mathlib.Omega.{arith}
use lib.ListN.{length, take, replicate, get_or-replicate, length-replicate}
use lib.Dec.{leb}
use lib.Ieee.{Float, to_bits, of_bits, lt, eq}
use borrow.Author.Tests.{leb-true, le-leb}
use lib.Seq.{take_all}
use Rattle.columns.specs.Lists.{each, joined, layered}
use Rattle.columns.specs.Places.{zero_float}
use Rattle.columns.specs.Questions.{ask, all, every}
use Rattle.columns.proofs.Tests.{and_both, both_and}
use Rattle.codes_writers.specs.Edges.{straight_edges, straight_rows}
use Rattle.codes_planar.specs.Planar.{row_edges, planar_row, planar_layer, planar_gap}
use Rattle.codes_circuit.specs.Circuit.{circuit_cell, circuit_row, circuit_gap}
use Rattle.codes_rotated.specs.Rotated.{rotated_place, rotated_edge, rotated_row, rotated_layer, rotated_gap, rotated_boundary, rotated_vertex}
use Rattle.codes_layers.specs.Codes.{rows, width, layer_edges, gap_edges, edges_of, vertex_of, layer_vertices, vertices_of}
use Rattle.codes_layers.specs.Counts.{layer_vertex_num, layer_edge_num, gap_edge_num}
use Rattle.codes_layers.specs.Accepts.{kind_known, distance_sound, rounds_sound, code_refusal}
use Rattle.weights_calls.specs.Calls.{is_largest_half_weight, half_weights, largest_weight, compute_refusal, some_above, edge_weights}
use Rattle.weights_recipe.specs.Probabilities.{is_probability}
use Rattle.columns.specs.Limits.{edge_limit, half_weight_limit}
use Rattle.columns_answers.proofs.Said.{accepts-of, refuses-of}
use Rattle.codes_questions.specs.Answers.{CountsVertices}
use Rattle.weights_recipe.specs.Rounding.{half_weight}
use Rattle.weights_calls.proofs.Theorems.{zero_among}
use Rattle.columns_pairs.specs.Pairs.{ends_differ, pairs_apart}
use Rattle.columns_neighbors.specs.Sound.{ends_in_range, graph_sound, log_sound}
use Rattle.columns_room.specs.Room.{three_long}
use Rattle.engine_columns.specs.Questions.{columns_long, engine_long, columns_sound, engine_sound}
use Rattle.engine_walks.specs.Settling as S
use Rattle.engine_walks.specs.Settling.{first_least, start, changes, by_status, offer, relax_edge, relax, stopped, next, settle}
use Rattle.engine_walks.specs.Answers.{read_back_of, step_into, path_in, path, from_left, nearest_right, crossing}
use Rattle.weights_recipe.specs.Logarithm.{edge_weight}
use Rattle.engine_columns.specs.Records.{Engine, engine, counts}
use Rattle.engine_columns.specs.Calls.{load_erasures, load_weights, reset}
use Rattle.engine_columns.specs.Open.{GraphColumns}
use Rattle.engine_tally.specs.Tally.{Fed, tally_of, tally_after}
use Rattle.query_questions.specs.Queries as Q
use Rattle.query_paths.specs.GetPath.{path_asked, path_refusal}
use Rattle.claims.specs.Listed.{tally_graph, tally_weights}
use Rattle.codes_layers.proofs.Counted.{vertices-counted, edges-counted}
use Rattle.claims_examples.proofs.Graph.{written, columns, by_parts, crossing_2000, crossing_3000, crossing_3, path_3000}
use Rattle.claims_examples.proofs.Builders.{builders_refuse, planar_65, rounds_341, even_d, circuit_24_41, rotated_16_26, rotated_8_9, rotated_left, planar_63, rounds_340, listing-left, listing_built, computed_ones}
use Rattle.claims_examples.proofs.Initialized.{listing_handed_on}
use Rattle.claims_examples.proofs.OnListing.{path_called, path_refused, erased_called, reset_called, ones_called}
use Rattle.claims_examples.specs.Starred.{StarredExamples, fed, crossing_after, listing_engine}

same_map : (n : ℕ) (f : Float → ℕ) (x : Float) → f x ≡ 1 → map f (replicate n x) ≡ replicate n 1
same_map zero f x e = refl
same_map (suc n) f x e = λ i. e i ∷ same_map n f x e i

zeros : (max n : ℕ) → is_largest_half_weight max ≡ true → half_weights max (replicate n zero_float) ≡ replicate n 1
zeros max zero h = refl
zeros max (suc n) h =
    let (a, b) = and_both (leb 1 max) (leb max half_weight_limit) h in
    same_map (suc n) (λ p. half_weight max (edge_weight p) (largest_weight (replicate (suc n) zero_float))) zero_float
    (zero_among max (replicate (suc n) zero_float) 0 (omega (arith, leb-true max half_weight_limit b)) (omega (arith, length-replicate (suc n) zero_float)) (get_or-replicate (suc n) 0 zero_float zero_float (omega arith)) (edge_weight zero_float))

-- question 9 is met by each p, question 10 by the first weight, which is +infinity
all_zero : (n : ℕ) → all is_probability (replicate n zero_float) ≡ true
unfolding all is_probability to_bits of_bits
all_zero zero = refl
all_zero (suc n) = all_zero n

some_infinite : (n : ℕ) → some_above (edge_weights (replicate (suc n) zero_float)) ≡ true
unfolding some_above edge_weight lt of_bits eq
some_infinite n = refl

zeros_asked : (max n : ℕ) (column : List ℕ) → is_largest_half_weight max ≡ true → 1 ≤ n → n ≤ edge_limit → n ≤ length column → compute_refusal n (replicate n zero_float) column max ≡ 0
zeros_asked max zero column h one few long = absurd (omega arith)
zeros_asked max (suc n) column h one few long =
    let ps = replicate (suc n) zero_float in
    let t : take (suc n) ps ≡ ps = take_all (suc n) ps (omega (arith, length-replicate (suc n) zero_float)) in
    let room : (leb (suc n) (length ps) && leb (suc n) (length column)) ≡ true = both_and (le-leb (suc n) (length ps) (omega (arith, length-replicate (suc n) zero_float))) (le-leb (suc n) (length column) long) in
    λ i. ask (room i) 6 (ask (le-leb (suc n) edge_limit few i) 7 (ask (h i) 8 (ask ((ap (all is_probability) t ∙ all_zero (suc n)) i) 9 (ask ((ap (λ xs. some_above (edge_weights xs)) t ∙ some_infinite n) i) 10 0))))

-- an even distance is refused for every kind
even : (kind rounds : ℕ) → kind_known kind ≡ true → CountsVertices kind 4 rounds (Err BadDistance)
unfolding code_refusal distance_sound
even kind rounds h = refuses-of (rw h) (λ e. absurd (omega arith))

-- ---- the crossing weights by the tally

abbrev crossing_of : List Fed → GraphColumns → Option ℕ
crossing_of fs c = crossing (tally_graph (tally_after fs (tally_of 4 3 c))) (tally_weights (tally_after fs (tally_of 4 3 c)))

erased_2000 : crossing_after (fed (load_erasures (1 ∷ [])) ∷ []) ≡ some 2000
unfolding all three_long
erased_2000 = ap (crossing_of (fed (load_erasures (1 ∷ [])) ∷ [])) columns ∙ by_parts (tally_after (fed (load_erasures (1 ∷ [])) ∷ []) (tally_of 4 3 written)) (1000 ∷ 0 ∷ 1000 ∷ []) 2000 refl refl crossing_2000

reset_3000 : crossing_after (fed (load_erasures (1 ∷ [])) ∷ fed reset ∷ []) ≡ some 3000
unfolding all three_long
reset_3000 = ap (crossing_of (fed (load_erasures (1 ∷ [])) ∷ fed reset ∷ [])) columns ∙ by_parts (tally_after (fed (load_erasures (1 ∷ [])) ∷ fed reset ∷ []) (tally_of 4 3 written)) (1000 ∷ 1000 ∷ 1000 ∷ []) 3000 refl refl crossing_3000

ones_3 : crossing_after (fed (load_weights (0 ∷ 1 ∷ 2 ∷ []) (1 ∷ 1 ∷ 1 ∷ [])) ∷ []) ≡ some 3
unfolding all three_long
ones_3 = ap (crossing_of (fed (load_weights (0 ∷ 1 ∷ 2 ∷ []) (1 ∷ 1 ∷ 1 ∷ [])) ∷ [])) columns ∙ by_parts (tally_after (fed (load_weights (0 ∷ 1 ∷ 2 ∷ []) (1 ∷ 1 ∷ 1 ∷ [])) ∷ []) (tally_of 4 3 written)) (1 ∷ 1 ∷ 1 ∷ []) 3 refl refl crossing_3

-- ---- the questions of a path from 2 to 2

abbrev engine_of : GraphColumns → Engine
engine_of c = engine (counts 4 3 0) c.ends_a c.ends_b c.weights c.boundary (0 ∷ 0 ∷ 0 ∷ []) (0 ∷ 0 ∷ 0 ∷ [])

refusal_0 : path_asked (engine_of written) true 3 2 4 4 ≡ 0
unfolding all every ends_differ pairs_apart ends_in_range graph_sound log_sound three_long columns_long engine_long columns_sound engine_sound
refusal_0 = refl

asked_0 : path_asked listing_engine true 3 2 4 4 ≡ 0
asked_0 = (λ i. path_asked (engine_of (columns i)) true 3 2 4 4) ∙ refusal_0

refusal_16 : path_asked (engine_of written) true 2 2 4 4 ≡ 16
unfolding all every ends_differ pairs_apart ends_in_range graph_sound log_sound three_long columns_long engine_long columns_sound engine_sound
refusal_16 = refl

sixteen : path_refusal (path_asked listing_engine true 2 2 4 4) (path (Q.graph_in listing_engine) (Q.weights_in listing_engine) 2 2) ≡ 16
sixteen = (λ i. path_refusal (path_asked (engine_of (columns i)) true 2 2 4 4) (path (Q.graph_in listing_engine) (Q.weights_in listing_engine) 2 2))
    ∙ (λ i. path_refusal (refusal_16 i) (path (Q.graph_in listing_engine) (Q.weights_in listing_engine) 2 2))

-- ---- counts by the lists

pub lists_24_41 : (length (vertices_of 4 3 1) ≡ 24) × (length (edges_of 4 3 1) ≡ 41)
unfolding layer_vertex_num layer_edge_num gap_edge_num
lists_24_41 = (vertices-counted 4 3 (omega arith) 1, edges-counted 4 3 (omega arith) 1)

pub lists_16_26 : (length (vertices_of 6 3 1) ≡ 16) × (length (edges_of 6 3 1) ≡ 26)
unfolding layer_vertex_num layer_edge_num gap_edge_num
lists_16_26 = (vertices-counted 6 3 (omega arith) 1, edges-counted 6 3 (omega arith) 1)

pub list_4032 : length (vertices_of 2 63 0) ≡ 4032
unfolding layer_vertex_num
list_4032 = vertices-counted 2 63 (omega arith) 0

pub list_4092 : length (vertices_of 3 3 340) ≡ 4092
unfolding layer_vertex_num
list_4092 = vertices-counted 3 3 (omega arith) 340

pub starred : StarredExamples
unfolding edges_of layered each joined rows width layer_edges gap_edges rotated_layer rotated_row rotated_edge rotated_place rotated_gap straight_rows straight_edges row_edges planar_layer planar_row planar_gap circuit_gap circuit_row circuit_cell vertices_of layer_vertices vertex_of rotated_vertex rotated_boundary layer_vertex_num layer_edge_num gap_edge_num kind_known distance_sound rounds_sound code_refusal all every ends_differ pairs_apart ends_in_range graph_sound log_sound three_long columns_long engine_long columns_sound engine_sound first_least start changes by_status offer relax_edge relax S.take_vertex stopped next settle read_back_of step_into path_in path from_left nearest_right crossing
starred = record {
  kind_5_edges = refl;
  kind_5_boundary = refl;
  kind_5_built = rotated_8_9;
  kind_5_left = rotated_left;
  kind_4_vertices = accepts-of refl;
  kind_4_edges = accepts-of refl;
  kind_6_vertices = accepts-of refl;
  kind_6_edges = accepts-of refl;
  kind_4_lists = lists_24_41;
  kind_6_lists = lists_16_26;
  kind_4_built = circuit_24_41;
  kind_6_built = rotated_16_26;
  kind_2_d_63 = accepts-of refl;
  kind_2_d_65 = refuses-of refl (λ e. absurd (omega arith));
  kind_2_d_63_list = list_4032;
  kind_2_d_63_built = planar_63;
  kind_2_d_65_built = builders_refuse 2 65 0 5 planar_65 (λ z. omega arith);
  kind_3_rounds_340 = accepts-of refl;
  kind_3_rounds_341 = refuses-of refl (λ e. absurd (omega arith));
  kind_3_rounds_340_list = list_4092;
  kind_3_rounds_340_built = rounds_340;
  kind_3_rounds_341_built = builders_refuse 3 3 341 5 rounds_341 (λ z. omega arith);
  d_4 = even;
  d_4_built = λ kind rounds h. builders_refuse kind 4 rounds 3 (even_d kind rounds h) (λ z. omega arith);
  listing_built = listing_built;
  listing_handed_on = λ c₀ c r to₀ to n x long. listing_handed_on c₀ c (listing-left c₀ c r x long) to₀ to n;
  path_3_2 = path_3000;
  path_3_2_asked = asked_0;
  path_3_2_called = path_called;
  edge_1_erased = erased_2000;
  edge_1_erased_called = erased_called;
  then_reset = reset_3000;
  then_reset_called = reset_called;
  every_weight_1 = ones_3;
  every_weight_1_called = ones_called;
  every_p_0 = zeros;
  every_p_0_asked = zeros_asked;
  every_p_0_computed = λ max n column₀ column r h one few long c. computed_ones max n column₀ column r (zeros_asked max n column₀ h one few long)
      (take_all n (replicate n zero_float) (omega (arith, length-replicate n zero_float))) (zeros max n h) c;
  path_2_2 = sixteen;
  path_2_2_called = path_refused;
}
