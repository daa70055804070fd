-- What the columns hold after `new`, and after the weights are stored. Assumes nothing.
use mathlib.Core.Path.{◌≡◌, sym, ap, ◌∙◌}
use mathlib.Core.Bool.{Bool, true, cond}
use mathlib.Core.List.{List}
use Prim.Native.Nat.{ℕ, ◌*◌, ◌≤◌, ◌<◌}
use native.Mathlib.Omega.{arith}
use lib.ListN.{length, get_or, take, length-map, length-take, get_or-map}
use lib.Seq.{get_or-take}
use lib.Ieee.{Float}
use borrow.Author.Tests.{eq-eqb, ne_eqb}
use Rattle.columns.specs.Lists.{each, over, after}
use Rattle.columns.specs.Limits.{weight_limit, half_weight_limit}
use Rattle.columns.specs.Places.{zero_float}
use Rattle.columns.specs.Questions.{weights_sound, all_within}
use Rattle.columns.proofs.Columns.{after-accepted, take-over, get_d_any}
use Rattle.columns.proofs.Counting.{each_same, length-each, getD-each}
use Rattle.columns.proofs.Tests.{at_within}
use Rattle.access_vertices.specs.Weights.{weights}
use Rattle.codes_writers.specs.declared.CodeVertex.{CodeVertex}
use Rattle.codes_writers.specs.Edges.{Ends, firsts, seconds, boundaries}
use Rattle.codes_layers.specs.Codes.{edges_of, vertices_of}
use Rattle.codes_layers.specs.Counts.{vertex_num, edge_num}
use Rattle.codes_layers.proofs.Counted.{edges-counted, vertices-counted}
use Rattle.weights_recipe.specs.Logarithm.{edge_weight}
use Rattle.weights_recipe.specs.Rounding.{half_weight}
use Rattle.weights_calls.specs.Calls.{largest_weight, half_weights}
use Rattle.weights_calls.proofs.Theorems.{within}
use Rattle.std.specs.Prelude.{Ok, Err}
use Rattle.columns.specs.declared.refusal.Refusal.{Refusal}
use Rattle.columns.specs.Refusals.{number}
use Rattle.codes_calls.specs.CreateCode.{code_counts}
use Rattle.codes_calls.specs.Columns.{CodeColumns}
use Rattle.columns_answers.proofs.Said.{refused-of}
use Rattle.codes_calls.proofs.Cases.{code_case}
use Rattle.codes_calls.specs.Probabilities.{probabilities, diagonal_of}
use Rattle.codes_calls.specs.NewCode.{new_refusal_in, NewCode}
use Rattle.codes_calls.proofs.WeightedOutcome.{sized}
use Rattle.text_numbers.specs.Text.{refusal_line}
use Rattle.text_listing.specs.Listing.{list_refusal, weights_of, listing_of, code_text}
use Rattle.text_listing.specs.Steps.{HoldsCode, HoldsWeights}
use Rattle.text_listing.proofs.Room.{CodeRoom, refusal_is}
use Rattle.text_listing.proofs.Sizes.{ListOpen, list_opened}

module _ (kind d rounds : ℕ) (p : Float) (max : ℕ) (lent back : CodeColumns) (room : CodeRoom lent) where
  refusal : new_refusal_in kind d rounds p (diagonal_of kind p) max lent ≡ list_refusal kind d rounds p max
  refusal = refusal_is kind d rounds p max _ _ _ room.vertex_room_holds room.edge_room_holds room.numbers

  -- refused
  pub refused-text : (n : Refusal) → NewCode kind d rounds p max lent back (Err n) → refusal_line (number n) ≡ code_text kind d rounds p max
  unfolding code_text
  refused-text n c =
      let q : number n ≡ list_refusal kind d rounds p max = c.answers.number_is ∙ refusal in
      ap refusal_line q
      ∙ sym (ap (λ (b : Bool). cond b (listing_of kind d rounds p max) (refusal_line (list_refusal kind d rounds p max))) (ne_eqb (list_refusal kind d rounds p max) 0 (λ z. refused-of c.answers (refusal ∙ z))))

  module _ (v e : ℕ) (c : NewCode kind d rounds p max lent back (Ok (code_counts v e))) where
    zero_number : new_refusal_in kind d rounds p (diagonal_of kind p) max lent ≡ 0
    zero_number = (code_case c.answers).0

    v-is : v ≡ vertex_num kind d rounds
    v-is = (code_case c.answers).1

    e-is : e ≡ edge_num kind d rounds
    e-is = (code_case c.answers).2

    open' : ListOpen kind d rounds max
    open' = list_opened kind d rounds p max (sym refusal ∙ zero_number)

    pub accepted-text : listing_of kind d rounds p max ≡ code_text kind d rounds p max
    unfolding code_text
    accepted-text = sym (ap (λ (b : Bool). cond b (listing_of kind d rounds p max) (refusal_line (list_refusal kind d rounds p max))) (eq-eqb (list_refusal kind d rounds p max) 0 (sym refusal ∙ zero_number)))

    -- a column's first places
    first-places : {A : Type 0} (vs lent₀ : List A) {column : List A} (n : ℕ) → length vs ≡ n → column ≡ after (new_refusal_in kind d rounds p (diagonal_of kind p) max lent) vs lent₀ → take n column ≡ vs
    first-places vs lent₀ n l q = ap (take n) (q ∙ after-accepted (new_refusal_in kind d rounds p (diagonal_of kind p) max lent) vs lent₀ zero_number) ∙ take-over vs lent₀ n l

    pub holds-code : HoldsCode kind d rounds p max v e back.ends_a back.ends_b back.half_weight back.boundary
    holds-code =
        let es = edges_of kind d rounds in
        let ps = probabilities kind d rounds p (diagonal_of kind p) in
        let count : length es ≡ e = edges-counted kind d open'.ok.distance.three rounds ∙ sym e-is in
        let count-v : length (vertices_of kind d rounds) ≡ v = vertices-counted kind d open'.ok.distance.three rounds ∙ sym v-is in
        record {
          code = open'.code;
          vertices = v-is;
          edges = e-is;
          few_vertices = omega (arith, v-is, open'.vertices);
          few_edges = omega (arith, e-is, open'.edges);
          max_few = open'.max_few;
          max_some = open'.max_some;
          in_a = first-places (firsts es) lent.ends_a e (length-map es (λ (x : Ends). x.0) ∙ count) c.columns_after.ends_a_after;
          in_b = first-places (seconds es) lent.ends_b e (length-map es (λ (x : Ends). x.1) ∙ count) c.columns_after.ends_b_after;
          in_h = first-places (half_weights max ps) lent.half_weight e (length-map ps (λ x. half_weight max (edge_weight x) (largest_weight ps)) ∙ sized kind d rounds p (diagonal_of kind p) open'.ok ∙ sym e-is) c.columns_after.half_weight_after;
          in_m = first-places (boundaries (vertices_of kind d rounds)) lent.boundary v (length-map (vertices_of kind d rounds) (λ (x : CodeVertex). x.boundary) ∙ count-v) c.columns_after.boundary_after;
        }

-- ---- the weights

module _ (kind d rounds : ℕ) (p : Float) (max v e : ℕ) (a b h m : List ℕ) (s : HoldsCode kind d rounds p max v e a b h m) where
  abbrev ps : List Float
  ps = probabilities kind d rounds p (diagonal_of kind p)

  h-at : (k : ℕ) → k < e → get_or h k 0 ≡ get_or (half_weights max ps) k 0
  h-at k l = sym (get_or-take e h k 0 l) ∙ ap (λ (x : List ℕ). get_or x k 0) s.in_h

  half-few : (k : ℕ) → k < length ps → get_or (half_weights max ps) k 0 ≤ half_weight_limit
  half-few k l =
      let f : Float → ℕ = λ x. half_weight max (edge_weight x) (largest_weight ps) in
      let q : get_or (half_weights max ps) k 0 ≡ f (get_or ps k zero_float) = get_d_any (half_weights max ps) k 0 (f zero_float) (omega (arith, length-map ps f)) ∙ get_or-map f ps k zero_float in
      omega (arith, q, (within max (edge_weight (get_or ps k zero_float)) (largest_weight ps) s.max_some).1, s.max_few)

  long-ps : e ≤ length ps
  long-ps = omega (arith, length-map ps (λ x. half_weight max (edge_weight x) (largest_weight ps)), ap length s.in_h, length-take e h, long_h)
    where
      long_h : length ps ≡ edge_num kind d rounds
      long_h = sized kind d rounds p (diagonal_of kind p) (Rattle.codes_layers.proofs.Accepted.accepted kind d rounds 0 s.code).0

  pub h-few : (k : ℕ) → k < e → get_or h k 0 ≤ half_weight_limit
  h-few k l = omega (arith, h-at k l, half-few k (omega (arith, long-ps)))

  pub h-long : e ≤ length h
  h-long = omega (arith, ap length s.in_h, length-take e h, length-map ps (λ x. half_weight max (edge_weight x) (largest_weight ps)), long-ps)

  module _ (w w₀ : List ℕ) (stored : w ≡ over (weights e h) w₀) where
    size : length (weights e h) ≡ e
    unfolding weights
    size = length-each e (λ k. 2 * get_or h k 0)

    in_w : take e w ≡ weights_of kind d rounds p max
    unfolding weights_of weights
    in_w =
        ap (take e) stored ∙ take-over (weights e h) w₀ e size
        ∙ each_same e (λ k. 2 * get_or h k 0) (λ k. 2 * get_or (half_weights max ps) k 0) (λ k l. ap (λ (n : ℕ). 2 * n) (h-at k l))
        ∙ ap (λ (n : ℕ). each n (λ k. 2 * get_or (half_weights max ps) k 0)) s.edges

    few_w : weights_sound e w ≡ true
    unfolding weights
    few_w =
        ap (all_within weight_limit) (ap (take e) stored ∙ take-over (weights e h) w₀ e size)
        ∙ at_within weight_limit (weights e h) (λ i l. let q = getD-each e (λ k. 2 * get_or h k 0) 0 i (omega (arith, size)) in omega (arith, q, h-few i (omega (arith, size))))

    pub holds-weights : HoldsWeights kind d rounds p max v e a b w m
    holds-weights = record {
      code = s.code;
      vertices = s.vertices;
      edges = s.edges;
      few_vertices = s.few_vertices;
      few_edges = s.few_edges;
      in_a = s.in_a;
      in_b = s.in_b;
      in_w = in_w;
      few_w = few_w;
      in_m = s.in_m;
    }
