-- Builders that refuse, half weights of every p 0, and the listing's graph from `new`, the logarithm computed. Assumes nothing.
use Rattle.codes_calls.specs.declared.CodeCounts.{CodeCounts}
use Rattle.columns.specs.declared.refusal.Refusal.{Refusal}
use Rattle.std.specs.Prelude.{Option, Result}
use mathlib.Core.Path.{◌≡◌, refl, sym, ap, ◌∙◌}
use mathlib.Core.Logic.{◌≢◌}
use mathlib.Core.Bool.{true}
use mathlib.Core.List.{List, [], ◌∷◌}
use Prim.Native.Nat.{ℕ}
use lib.ListN.{length, take, replicate}
use lib.Ieee.{Float, of_bits, to_bits, div, sub, mul, add, lt, eq, le, of_int}
use Rattle.columns.specs.Lists.{each, joined, layered, over}
use Rattle.columns.specs.Places.{zero_float}
use Rattle.columns.specs.Questions.{ask}
use Rattle.columns.proofs.Columns.{take-over, after-accepted, after-refused}
use Rattle.columns_answers.specs.Said.{Answered, accepts, said}
use Rattle.codes_writers.specs.Edges.{straight_edges, straight_rows, firsts, seconds, boundaries}
use Rattle.codes_planar.specs.Planar.{row_edges, planar_row, planar_layer, planar_gap, capacity_vertex}
use Rattle.codes_rotated.specs.Rotated.{rotated_place, rotated_edge, rotated_row, rotated_layer, rotated_gap, rotated_boundary, rotated_vertex}
use Rattle.codes_layers.specs.Codes.{rows, width, layer_edges, gap_edges, edges_of, vertex_of, layer_vertices, vertices_of}
use Rattle.codes_layers.specs.Counts.{vertex_num, edge_num, layer_vertex_num, layer_edge_num, gap_edge_num}
use Rattle.codes_layers.specs.Accepts.{kind_known, distance_sound, rounds_sound, code_refusal}
use Rattle.weights_recipe.specs.Logarithm.{halve, series, logarithm, edge_weight}
use Rattle.weights_recipe.specs.Rounding.{scaled, reaches, seek, greatest, half_weight}
use Rattle.weights_recipe.specs.Probabilities.{is_probability}
use Rattle.weights_calls.specs.Calls.{half_weights, compute_refusal, largest, some_above, ComputedWeights}
use Rattle.codes_calls.specs.Columns.{CodeColumns, vertex_room, edge_room, long_enough, HandedBack}
use Rattle.codes_calls.specs.CreateCode.{create_refusal, CreateCode, code_counts, no_code_counts}
use Rattle.codes_calls.specs.NewCode.{new_refusal, new_refusal_in, NewCode, NewDiagonal}
use Rattle.codes_calls.specs.Probabilities.{probabilities, diagonal_of}
use Rattle.access_vertices.specs.Weights.{weights as doubled}
use Rattle.engine_columns.specs.Open.{graph_columns}
use Rattle.weights_claims.specs.Called.{WeightsReturned, weights_returned}
use Rattle.claims.specs.BuildersCalled.{CreateReturned, create_returned, NewReturned, new_returned, NewDiagonalReturned, new_diagonal_returned, CodeBuilt}
use Rattle.claims.proofs.Built.{built_of}
use Rattle.claims_examples.specs.Starred.{RefusedBy, BuildersRefuse, CreateGives, KindFive, listing_p, graph_of_code, listing_graph}
use Rattle.claims_examples.proofs.Answers.{said-accepts, said-refuses}

-- ---- refusals

kept : (q : ℕ) (new c₀ c : CodeColumns) → q ≢ 0 → HandedBack q new c₀ c → c ≡ c₀
kept q new c₀ c f h = λ i. record {
  ends_a = (h.ends_a_after ∙ after-refused q new.ends_a c₀.ends_a f) i;
  ends_b = (h.ends_b_after ∙ after-refused q new.ends_b c₀.ends_b f) i;
  p = (h.p_after ∙ after-refused q new.p c₀.p f) i;
  pe = (h.pe_after ∙ after-refused q new.pe c₀.pe f) i;
  half_weight = (h.half_weight_after ∙ after-refused q new.half_weight c₀.half_weight f) i;
  erasure = (h.erasure_after ∙ after-refused q new.erasure c₀.erasure f) i;
  pos_i = (h.pos_i_after ∙ after-refused q new.pos_i c₀.pos_i f) i;
  pos_j = (h.pos_j_after ∙ after-refused q new.pos_j c₀.pos_j f) i;
  pos_t = (h.pos_t_after ∙ after-refused q new.pos_t c₀.pos_t f) i;
  boundary = (h.boundary_after ∙ after-refused q new.boundary c₀.boundary f) i;
  defect = (h.defect_after ∙ after-refused q new.defect c₀.defect f) i;
  list_lengths = (h.list_lengths_after ∙ after-refused q new.list_lengths c₀.list_lengths f) i;
  neighbor_numbers = (h.neighbor_numbers_after ∙ after-refused q new.neighbor_numbers c₀.neighbor_numbers f) i;
}

refused_by : (n q : ℕ) (v : CodeCounts) (new c₀ c : CodeColumns) (r : Result CodeCounts Refusal) → Answered (said no_code_counts r) q v no_code_counts → HandedBack q new c₀ c → q ≡ n → n ≢ 0 → RefusedBy n c₀ c r
refused_by n q v new c₀ c r a h e f = (said-refuses n a e f, kept q new c₀ c (λ z. f (sym e ∙ z)) h)

created_of : (kind d rounds : ℕ) (c₀ c : CodeColumns) (r : Result CodeCounts Refusal) → CreateReturned kind d rounds c₀ c r → CreateCode kind d rounds c₀ c r
created_of kind d rounds c₀ c r (create_returned κs a q s h) = h

new_of : (kind d rounds : ℕ) (p : Float) (max : ℕ) (c₀ c : CodeColumns) (r : Result CodeCounts Refusal) → NewReturned kind d rounds p max c₀ c r → NewCode kind d rounds p max c₀ c r
new_of kind d rounds p max c₀ c r (new_returned κs a q s h) = h

diagonal_of_lem : (d rounds : ℕ) (p : Float) (diagonal : Option Float) (max : ℕ) (c₀ c : CodeColumns) (r : Result CodeCounts Refusal) → NewDiagonalReturned d rounds p diagonal max c₀ c r
    → NewDiagonal d rounds p diagonal max c₀ c r
diagonal_of_lem d rounds p diagonal max c₀ c r (new_diagonal_returned κs a q s h) = h

computed_of : (n : ℕ) (p : List Float) (max : ℕ) (column₀ column : List ℕ) (r : Result (Unit {0}) Refusal) → WeightsReturned n p column₀ max r column → ComputedWeights n p column₀ max column r
computed_of n p max column₀ column r (weights_returned κs a q s h) = h

-- a number of questions 2 to 5 refuses every builder, whatever the later questions say
pub builders_refuse : (kind d rounds n : ℕ) → ((later : ℕ) → code_refusal kind d rounds later ≡ n) → n ≢ 0 → BuildersRefuse kind d rounds n
unfolding create_refusal new_refusal
builders_refuse kind d rounds n e f = record {
  create = λ c₀ c r x. let h = created_of kind d rounds c₀ c r x in refused_by n _ _ _ c₀ c r h.answers h.columns_after (e _) f;
  new = λ p max c₀ c r x. let h = new_of kind d rounds p max c₀ c r x in refused_by n _ _ _ c₀ c r h.answers h.columns_after (e _) f;
  new_diagonal_holds = λ four p diagonal max c₀ c r x.
      let h = diagonal_of_lem d rounds p diagonal max c₀ c r x in
      let refused : (later : ℕ) → code_refusal 4 d rounds later ≡ n = λ later. ap (λ k. code_refusal k d rounds later) (sym four) ∙ e later in
      refused_by n _ _ _ c₀ c r h.answers h.columns_after (refused _) f;
}

pub planar_65 : (later : ℕ) → code_refusal 2 65 0 later ≡ 5
unfolding code_refusal kind_known distance_sound rounds_sound layer_vertex_num
planar_65 later = refl

pub rounds_341 : (later : ℕ) → code_refusal 3 3 341 later ≡ 5
unfolding code_refusal kind_known distance_sound rounds_sound layer_vertex_num
rounds_341 later = refl

pub even_d : (kind rounds : ℕ) → kind_known kind ≡ true → (later : ℕ) → code_refusal kind 4 rounds later ≡ 3
unfolding code_refusal distance_sound
even_d kind rounds h later = rw h

-- ---- counts

-- questions 2 to 5 met, and 6 by the columns' lengths
gives : (kind d rounds v e : ℕ) → ((later : ℕ) → code_refusal kind d rounds later ≡ later) → vertex_num kind d rounds ≡ v → edge_num kind d rounds ≡ e → CreateGives kind d rounds v e
unfolding create_refusal
gives kind d rounds v e met same-v same-e c₀ c r x long =
    let h = created_of kind d rounds c₀ c r x in
    let z = met _ ∙ (λ i. ask (long_enough (same-v i) (same-e i) (vertex_room c₀) (edge_room c₀) (length c₀.neighbor_numbers)) 6 0) ∙ (λ i. ask (long i) 6 0) in
    said-accepts h.answers z ∙ (λ i. accepts (code_counts (same-v i) (same-e i)))

pub circuit_24_41 : CreateGives 4 3 1 24 41
unfolding code_refusal kind_known distance_sound rounds_sound layer_vertex_num layer_edge_num gap_edge_num
circuit_24_41 = gives 4 3 1 24 41 (λ later. refl) refl refl

pub rotated_16_26 : CreateGives 6 3 1 16 26
unfolding code_refusal kind_known distance_sound rounds_sound layer_vertex_num layer_edge_num gap_edge_num
rotated_16_26 = gives 6 3 1 16 26 (λ later. refl) refl refl

pub rotated_8_9 : CreateGives 5 3 0 8 9
unfolding code_refusal kind_known distance_sound rounds_sound layer_vertex_num layer_edge_num gap_edge_num
rotated_8_9 = gives 5 3 0 8 9 (λ later. refl) refl refl

pub rotated_left : (v e : ℕ) (a b m : List ℕ) → CodeBuilt 5 3 0 v e a b m → KindFive v e a b m
unfolding layer_vertex_num layer_edge_num gap_edge_num edges_of layered each joined rows width layer_edges gap_edges rotated_layer rotated_row rotated_edge rotated_place rotated_gap vertices_of layer_vertices vertex_of rotated_vertex rotated_boundary
rotated_left v e a b m x =
    let g = built_of 5 3 0 v e a b m x in
    record {
      vertices_are = g.vertices_are;
      edges_are = g.edges_are;
      first_ends = ap (λ n. take n a) (sym g.edges_are) ∙ g.ends_a_are;
      second_ends = ap (λ n. take n b) (sym g.edges_are) ∙ g.ends_b_are;
      left_and_right = ap (λ n. take n m) (sym g.vertices_are) ∙ g.boundary_are;
    }

pub planar_63 : CreateGives 2 63 0 4032 7813
unfolding code_refusal kind_known distance_sound rounds_sound layer_vertex_num layer_edge_num gap_edge_num
planar_63 = gives 2 63 0 4032 7813 (λ later. refl) refl refl

pub rounds_340 : CreateGives 3 3 340 4092 6473
unfolding code_refusal kind_known distance_sound rounds_sound layer_vertex_num layer_edge_num gap_edge_num
rounds_340 = gives 3 3 340 4092 6473 (λ later. refl) refl refl

-- ---- the listing's graph

half-weights : half_weights 500 (probabilities 1 3 0 listing_p (diagonal_of 1 listing_p)) ≡ 500 ∷ 500 ∷ 500 ∷ []
unfolding div sub add mul lt eq le of_int of_bits halve series logarithm edge_weight scaled reaches seek greatest half_weight largest probabilities each joined layered straight_edges straight_rows row_edges planar_row planar_layer planar_gap rows width layer_edges gap_edges edges_of
half-weights = refl

new_accepted : (c₀ : CodeColumns) → long_enough 4 3 (vertex_room c₀) (edge_room c₀) (length c₀.neighbor_numbers) ≡ true → new_refusal_in 1 3 0 listing_p (diagonal_of 1 listing_p) 500 c₀ ≡ 0
unfolding new_refusal code_refusal kind_known distance_sound rounds_sound layer_vertex_num layer_edge_num gap_edge_num is_probability some_above div sub add mul lt eq le of_int of_bits to_bits halve series logarithm edge_weight probabilities each joined layered straight_edges straight_rows row_edges planar_row planar_layer planar_gap rows width layer_edges gap_edges edges_of
new_accepted c₀ long = λ i. ask (long i) 6 0

pub three-edges : (length (firsts (edges_of 1 3 0)) ≡ 3) × (length (seconds (edges_of 1 3 0)) ≡ 3) × (length (boundaries (vertices_of 1 3 0)) ≡ 4)
unfolding each joined layered straight_edges straight_rows row_edges planar_row planar_layer planar_gap rows width layer_edges gap_edges edges_of vertices_of layer_vertices vertex_of capacity_vertex
three-edges = (refl, refl, refl)

twice : (column : List ℕ) → doubled 3 (over (500 ∷ 500 ∷ 500 ∷ []) column) ≡ 1000 ∷ 1000 ∷ 1000 ∷ []
unfolding doubled each
twice column = refl

-- the columns that `new` then leaves
pub record ListingLeft (c₀ c : CodeColumns) : Type 0 where
  pub ends_a_is : c.ends_a ≡ over (firsts (edges_of 1 3 0)) c₀.ends_a
  pub ends_b_is : c.ends_b ≡ over (seconds (edges_of 1 3 0)) c₀.ends_b
  pub half_weight_is : c.half_weight ≡ over (500 ∷ 500 ∷ 500 ∷ []) c₀.half_weight
  pub boundary_is : c.boundary ≡ over (boundaries (vertices_of 1 3 0)) c₀.boundary

pub listing-places : (c₀ c : CodeColumns) → ListingLeft c₀ c
    → (take 3 c.ends_a ≡ firsts (edges_of 1 3 0)) × (take 3 c.ends_b ≡ seconds (edges_of 1 3 0)) × (doubled 3 c.half_weight ≡ 1000 ∷ 1000 ∷ 1000 ∷ []) × (take 4 c.boundary ≡ boundaries (vertices_of 1 3 0))
listing-places c₀ c l = (
  ap (take 3) l.ends_a_is ∙ take-over (firsts (edges_of 1 3 0)) c₀.ends_a 3 three-edges.0,
  ap (take 3) l.ends_b_is ∙ take-over (seconds (edges_of 1 3 0)) c₀.ends_b 3 three-edges.1,
  ap (doubled 3) l.half_weight_is ∙ twice c₀.half_weight,
  ap (take 4) l.boundary_is ∙ take-over (boundaries (vertices_of 1 3 0)) c₀.boundary 4 three-edges.2,
)

module _ (c₀ c : CodeColumns) (r : Result CodeCounts Refusal) (x : NewReturned 1 3 0 listing_p 500 c₀ c r) (long : long_enough 4 3 (vertex_room c₀) (edge_room c₀) (length c₀.neighbor_numbers) ≡ true) where
  abbrev h : NewCode 1 3 0 listing_p 500 c₀ c r
  h = new_of 1 3 0 listing_p 500 c₀ c r x

  abbrev q : ℕ
  q = new_refusal_in 1 3 0 listing_p (diagonal_of 1 listing_p) 500 c₀

  z : q ≡ 0
  z = new_accepted c₀ long

  pub listing-left : ListingLeft c₀ c
  listing-left = record {
    ends_a_is = h.columns_after.ends_a_after ∙ after-accepted q (firsts (edges_of 1 3 0)) c₀.ends_a z;
    ends_b_is = h.columns_after.ends_b_after ∙ after-accepted q (seconds (edges_of 1 3 0)) c₀.ends_b z;
    half_weight_is = h.columns_after.half_weight_after ∙ after-accepted q (half_weights 500 (probabilities 1 3 0 listing_p (diagonal_of 1 listing_p))) c₀.half_weight z
        ∙ ap (λ x. over x c₀.half_weight) half-weights;
    boundary_is = h.columns_after.boundary_after ∙ after-accepted q (boundaries (vertices_of 1 3 0)) c₀.boundary z;
  }

  pub listing_built : (said no_code_counts r ≡ accepts (code_counts 4 3)) × (graph_of_code c ≡ listing_graph)
  unfolding layer_vertex_num layer_edge_num gap_edge_num
  listing_built = let (a, b, w, m) = listing-places c₀ c listing-left in (said-accepts h.answers z, λ i. graph_columns (a i) (b i) (w i) (m i))

-- ---- every p 0

pub computed_ones : (max n : ℕ) (column₀ column : List ℕ) (r : Result (Unit {0}) Refusal) → compute_refusal n (replicate n zero_float) column₀ max ≡ 0 → take n (replicate n zero_float) ≡ replicate n zero_float
    → half_weights max (replicate n zero_float) ≡ replicate n 1
    → WeightsReturned n (replicate n zero_float) column₀ max r column → (said tt r ≡ accepts tt) × (column ≡ over (replicate n 1) column₀)
computed_ones max n column₀ column r z t e x =
    let c = computed_of n (replicate n zero_float) max column₀ column r x in
    (said-accepts c.answers z, c.column_after ∙ after-accepted _ (half_weights max (take n (replicate n zero_float))) column₀ z ∙ ap (λ y. over y column₀) (ap (half_weights max) t ∙ e))
