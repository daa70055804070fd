-- The number, the columns and the answer of `new`, accepted and refused. Assumes nothing.
use Rattle.std.specs.Prelude.{Option, None}
use mathlib.Core.Path.{◌≡◌, refl, sym, ap, ◌∙◌, subst}
use mathlib.Core.Logic.{inl, inr}
use mathlib.Core.Bool.{Bool, true, false, ◌&&◌, cond}
use mathlib.Core.List.{List, map, ◌++◌}
use Prim.Native.Nat.{ℕ, zero, suc, ◌+◌, ◌≤◌, ◌<◌}
use native.Mathlib.Omega.{arith}
use lib.Dec.{eqb, leb}
use lib.ListN.{length, get_or, drop, replicate, length-map, length-replicate}
use lib.Seq.{sets}
use lib.Ieee.{Float, lt}
use borrow.Author.Tests.{ne_eqb}
use Rattle.columns.specs.Lists.{each, over, after}
use Rattle.columns.specs.Limits.{vertex_limit}
use Rattle.columns.specs.Questions.{ask}
use Rattle.columns.specs.Places.{zero_float, position, position_at}
use Rattle.columns.specs.declared.VisualizePosition.{VisualizePosition}
use Rattle.columns.proofs.Columns.{after-accepted, length_over, over-in, drop-over, sets_over}
use Rattle.columns.proofs.Counting.{each_same, each-getD, map_each}
use Rattle.codes_writers.specs.declared.CodeVertex.{CodeVertex}
use Rattle.codes_writers.specs.Edges.{Ends, firsts, seconds, positions_i, positions_j, positions_t}
use Rattle.codes_layers.specs.Codes.{edges_of, vertices_of}
use Rattle.codes_layers.specs.Counts.{vertex_num, edge_num}
use Rattle.codes_layers.specs.Accepts.{kind_known, distance_sound, rounds_sound, code_refusal}
use Rattle.codes_layers.proofs.Accepted.{Accepted, accepted}
use Rattle.codes_layers.proofs.Counted.{edges-counted, vertices-counted}
use Rattle.codes_graphs.proofs.AllEdges.{edge-facts}
use Rattle.codes_graphs.proofs.Sound.{first-over, second-over}
use Rattle.weights_recipe.specs.Logarithm.{edge_weight}
use Rattle.weights_recipe.specs.Rounding.{half_weight}
use Rattle.weights_recipe.specs.Probabilities.{is_probability}
use Rattle.weights_diagonal.specs.Diagonal.{is_diagonal, replaced, new_diagonal, is_diagonal_probability}
use Rattle.weights_calls.specs.Calls.{largest_weight, edge_weights, some_above, is_largest_half_weight, half_weights}
use Rattle.weights_calls.proofs.Largest.{some_above_lem}
use Rattle.std.specs.Prelude.{Result, Ok, Err}
use Rattle.columns.specs.declared.refusal.Refusal.{Refusal}
use Rattle.columns.specs.Refusals.{number, question_of}
use Rattle.columns_answers.proofs.Said.{refusal-of, no_zero}
use Rattle.codes_calls.specs.declared.CodeCounts.{CodeCounts}
use Rattle.codes_calls.specs.Columns.{CodeColumns, long_enough}
use Rattle.codes_calls.specs.CreateCode.{create_refusal, new_columns, CodeCreated}
use Rattle.codes_calls.proofs.Outcome.{Open, edges-long, kept_back}
use Rattle.codes_weights.specs.declared.Weighed.{Weighed}
use Rattle.codes_calls.specs.Probabilities.{position_of, probabilities, diagonal_of}
use Rattle.codes_calls.specs.NewCode.{new_refusal, new_refusal_in, weighted_columns, Weighted, WeightedCode}
use Rattle.codes_weights.specs.Steps.{diagonal_p, largest_of, weighed_of, weights_refusal, diagonal_at, WeighRoom, EdgesWeighed}
use Rattle.codes_calls.specs.WeightedSteps.{DiagonalKind}
use Rattle.codes_calls.proofs.Diagonals.{diagonal_edge}
use Rattle.codes_calls.proofs.Largest.{by_test, largest_is}

-- ---- the number

-- questions 8 to 10 come after 2 to 6
chain : (a b c d e : Bool) (x y : ℕ) → (ask a 2 (ask b 3 (ask c 4 (ask d 5 (ask e 6 0)))) ≡ 0 → x ≡ y)
    → cond (eqb (ask a 2 (ask b 3 (ask c 4 (ask d 5 (ask e 6 0))))) 0) x (ask a 2 (ask b 3 (ask c 4 (ask d 5 (ask e 6 0))))) ≡ ask a 2 (ask b 3 (ask c 4 (ask d 5 (ask e 6 y))))
chain false b c d e x y f = refl
chain true false c d e x y f = refl
chain true true false d e x y f = refl
chain true true true false e x y f = refl
chain true true true true false x y f = refl
chain true true true true true x y f = f refl

later : (kind d rounds : ℕ) (six : Bool) (x y : ℕ) → (code_refusal kind d rounds (ask six 6 0) ≡ 0 → x ≡ y)
    → cond (eqb (code_refusal kind d rounds (ask six 6 0)) 0) x (code_refusal kind d rounds (ask six 6 0)) ≡ code_refusal kind d rounds (ask six 6 y)
unfolding code_refusal
later kind d rounds six x y f = chain (kind_known kind) (distance_sound d) (rounds_sound kind rounds) (leb (vertex_num kind d rounds) vertex_limit) six x y f

pub number_is : (kind d rounds : ℕ) (p : Float) (diagonal : Option Float) (max vr er nl q : ℕ) (l : Float) → DiagonalKind kind diagonal → l ≡ largest_of rounds p diagonal
    → q ≡ weights_refusal (create_refusal kind d rounds vr er nl) (is_largest_half_weight max) (is_probability p && is_diagonal_probability diagonal) (lt zero_float l)
    → q ≡ new_refusal kind d rounds p diagonal max vr er nl
unfolding weights_refusal create_refusal new_refusal
number_is kind d rounds p diagonal max vr er nl q l k e f =
    f ∙ later kind d rounds (long_enough (vertex_num kind d rounds) (edge_num kind d rounds) vr er nl) _ _ (λ z.
    let ok = (accepted kind d rounds _ z).0 in
    let ten : lt zero_float l ≡ some_above (edge_weights (probabilities kind d rounds p diagonal)) =
    ap (lt zero_float) (e ∙ sym (largest_is kind d rounds p diagonal ok k)) ∙ some_above_lem (edge_weights (probabilities kind d rounds p diagonal)) in
    ap (λ (b : Bool). ask (is_largest_half_weight max) 8 (ask (is_probability p && is_diagonal_probability diagonal) 9 (ask b 10 0))) ten)

-- the same by the columns' lengths
pub new_number_lem : (kind d rounds : ℕ) (p : Float) (diagonal : Option Float) (max q vr er nl vr' er' nl' : ℕ) → q ≡ new_refusal kind d rounds p diagonal max vr er nl → vr ≡ vr' → er ≡ er' → nl ≡ nl'
    → q ≡ new_refusal kind d rounds p diagonal max vr' er' nl'
new_number_lem kind d rounds p diagonal max q vr er nl vr' er' nl' a b c e = a ∙ λ i. new_refusal kind d rounds p diagonal max (b i) (c i) (e i)

-- no question refuses: none of 2 to 6 does
refusal_zero : (q : ℕ) (e n t : Bool) → weights_refusal q e n t ≡ 0 → q ≡ 0
unfolding weights_refusal
refusal_zero zero e n t z = refl
refusal_zero (suc q) e n t z = let y : suc q ≡ 0 = sym (ap (λ (b : Bool). cond b (ask e 8 (ask n 9 (ask t 10 0))) (suc q)) (ne_eqb (suc q) 0 (λ w. omega arith))) ∙ z in absurd (omega arith)

-- where one of 2 to 6 refuses, the later ones do not matter
pub earlier_refuse : (q : ℕ) (e n t : Bool) → (q ≡ 0 → ⊥) → weights_refusal q e n t ≡ q
unfolding weights_refusal
earlier_refuse q e n t f = simp (ne_eqb q 0 f)

pub created_too : (kind d rounds vr er nl vr' er' nl' q : ℕ) (e n t : Bool) → q ≡ weights_refusal (create_refusal kind d rounds vr er nl) e n t → q ≡ 0 → vr ≡ vr' → er ≡ er' → nl ≡ nl' → create_refusal kind d rounds vr' er' nl' ≡ 0
created_too kind d rounds vr er nl vr' er' nl' q e n t f z a b c = sym (λ i. create_refusal kind d rounds (a i) (b i) (c i)) ∙ refusal_zero (create_refusal kind d rounds vr er nl) e n t (sym f ∙ z)

-- ---- refused

pub refused : (kind d rounds : ℕ) (p : Float) (diagonal : Option Float) (max : ℕ) (lent : CodeColumns) {answer : Result CodeCounts Refusal} {r : Refusal} → answer ≡ Err r
    → number r ≡ new_refusal_in kind d rounds p diagonal max lent → WeightedCode kind d rounds p diagonal max lent lent answer
refused kind d rounds p diagonal max lent {answer} {r} a e =
    let q = new_refusal_in kind d rounds p diagonal max lent in
    record { answers = rw a (refusal-of r e); columns_after = kept_back q (weighted_columns kind d rounds p diagonal max) lent (λ z. no_zero r (e ∙ z)) }

-- ---- accepted

-- what `create_code` wrote
wrote : {A : Type 0} (q : ℕ) (vs lent : List A) {back : List A} → q ≡ 0 → back ≡ after q vs lent → back ≡ over vs lent
wrote q vs lent z e = e ∙ after-accepted q vs lent z

pub weigh_room : (kind d rounds : ℕ) (lent mid : CodeColumns) (q n : ℕ) (r : Result CodeCounts Refusal) → Open kind d rounds lent → q ≡ 0 → CodeCreated kind d rounds q lent mid r → n ≡ edge_num kind d rounds
    → WeighRoom n mid.ends_a mid.ends_b mid.p mid.half_weight
weigh_room kind d rounds lent mid q n r o z m e =
    let es = edges_of kind d rounds in
    let count = edges-counted kind d o.ok.distance.three rounds in
    let l = edges-long kind d rounds lent o in
    let a = length_over (firsts es) lent.ends_a (omega (arith, count, length-map es (λ (x : Ends). x.0), l.long_a)) in
    let b = length_over (seconds es) lent.ends_b (omega (arith, count, length-map es (λ (x : Ends). x.1), l.long_b)) in
    let p = length_over (replicate (edge_num kind d rounds) zero_float) lent.p (omega (arith, length-replicate (edge_num kind d rounds) zero_float, l.long_p)) in
    let h = length_over (replicate (edge_num kind d rounds) zero) lent.half_weight (omega (arith, length-replicate (edge_num kind d rounds) zero, l.long_h)) in
    record {
      room_a = omega (arith, e, a, l.long_a, ap length (wrote q (firsts es) lent.ends_a z m.columns_after.ends_a_after));
      room_b = omega (arith, e, b, l.long_b, ap length (wrote q (seconds es) lent.ends_b z m.columns_after.ends_b_after));
      room_p = omega (arith, e, p, l.long_p, ap length (wrote q (replicate (edge_num kind d rounds) zero_float) lent.p z m.columns_after.p_after));
      room_h = omega (arith, e, h, l.long_h, ap length (wrote q (replicate (edge_num kind d rounds) zero) lent.half_weight z m.columns_after.half_weight_after));
    }

-- a column whose first places are written again
again : {A : Type 0} (n : ℕ) (old new lent : List A) {mid back : List A} → length old ≡ n → length new ≡ n → n ≤ length lent → mid ≡ over old lent → back ≡ sets mid 0 new → back ≡ over new lent
again n old new lent {mid} {back} a b l e f =
    f ∙ ap (λ (c : List _). sets c 0 new) e ∙ sets_over (over old lent) new (omega (arith, length_over old lent (omega arith)))
    ∙ ap (λ (c : List _). new ++ c) (ap (λ (k : ℕ). drop k (over old lent)) b ∙ drop-over old lent n a ∙ ap (λ (k : ℕ). drop k lent) (sym b))

-- the columns of positions past the vertices do not matter
module _ (kind d rounds : ℕ) (ok : Accepted kind d rounds) (i j t : List Float) where
  abbrev vs : List CodeVertex
  vs = vertices_of kind d rounds

  pub position-over : (v : ℕ) → v < vertex_num kind d rounds → position_at (over (positions_i vs) i) (over (positions_j vs) j) (over (positions_t vs) t) v ≡ position_of kind d rounds v
  unfolding position_of
  position-over v h =
      let n = vertices-counted kind d ok.distance.three rounds in
      λ k. position
      (over-in (positions_i vs) i zero_float v (omega (arith, n, length-map vs (λ (x : CodeVertex). x.position.i))) k)
      (over-in (positions_j vs) j zero_float v (omega (arith, n, length-map vs (λ (x : CodeVertex). x.position.j))) k)
      (over-in (positions_t vs) t zero_float v (omega (arith, n, length-map vs (λ (x : CodeVertex). x.position.t))) k)

-- whether an edge is diagonal, by the columns
module _ (kind d rounds : ℕ) (ok : Accepted kind d rounds) (a b : List ℕ) (i j t : List Float) where
  abbrev es : List Ends
  es = edges_of kind d rounds

  abbrev byColumns : ℕ → Bool
  byColumns = diagonal_at (over (firsts es) a) (over (seconds es) b) (over (positions_i (vertices_of kind d rounds)) i) (over (positions_j (vertices_of kind d rounds)) j) (over (positions_t (vertices_of kind d rounds)) t)

  by-columns : (k : ℕ) → k < edge_num kind d rounds → byColumns k ≡ diagonal_edge kind d rounds (get_or es k (0, 0))
  unfolding diagonal_at
  by-columns k h =
      let f = edge-facts kind d rounds ok in
      let count = edges-counted kind d ok.distance.three rounds in
      let place : ℕ → VisualizePosition = position_at (over (positions_i (vertices_of kind d rounds)) i) (over (positions_j (vertices_of kind d rounds)) j) (over (positions_t (vertices_of kind d rounds)) t) in
      let second : (get_or es k (0, 0)).1 < vertex_num kind d rounds = f.within k (omega (arith, count)) in
      let first : (get_or es k (0, 0)).0 < vertex_num kind d rounds = omega (arith, f.rising k (omega (arith, count))) in
      (λ n. is_diagonal (place (first-over kind d rounds ok a k h n)) (place (second-over kind d rounds ok b k h n)))
      ∙ (λ n. is_diagonal (position-over kind d rounds ok i j t (get_or es k (0, 0)).0 first n) (position-over kind d rounds ok i j t (get_or es k (0, 0)).1 second n))

  -- the p of each edge
  pub probabilities-are : (p : Float) (diagonal : Option Float) → each (edge_num kind d rounds) (λ k. cond (byColumns k) (diagonal_p p diagonal) p) ≡ probabilities kind d rounds p diagonal
  unfolding probabilities
  probabilities-are p diagonal =
      let count = edges-counted kind d ok.distance.three rounds in
      let f : Ends → Float = λ e. replaced diagonal p (diagonal_edge kind d rounds e) in
      each_same (edge_num kind d rounds) _ (λ k. f (get_or es k (0, 0))) (λ k h. ap (λ (b : Bool). cond b (diagonal_p p diagonal) p) (by-columns k h) ∙ sym (by_test diagonal p (diagonal_edge kind d rounds (get_or es k (0, 0)))))
      ∙ sym (map_each f (edge_num kind d rounds) (λ k. get_or es k (0, 0)))
      ∙ ap (map f) (ap (λ (n : ℕ). each n (λ k. get_or es k (0, 0))) (sym count) ∙ each-getD es (0, 0))

  -- the half weight of each edge
  pub halves_are : (p : Float) (diagonal : Option Float) (max : ℕ) (l : Float) → l ≡ largest_weight (probabilities kind d rounds p diagonal)
      → each (edge_num kind d rounds) (λ k. cond (byColumns k) (half_weight max (edge_weight (diagonal_p p diagonal)) l) (half_weight max (edge_weight p) l)) ≡ half_weights max (probabilities kind d rounds p diagonal)
  halves_are p diagonal max l e =
      let g : Float → ℕ = λ q. half_weight max (edge_weight q) l in
      each_same (edge_num kind d rounds) _ (λ k. g (cond (byColumns k) (diagonal_p p diagonal) p)) (λ k h. sym (go g (byColumns k)))
      ∙ sym (map_each g (edge_num kind d rounds) (λ k. cond (byColumns k) (diagonal_p p diagonal) p))
      ∙ ap (map g) (probabilities-are p diagonal)
      ∙ ap (λ (m : Float). map (λ q. half_weight max (edge_weight q) m) (probabilities kind d rounds p diagonal)) e
    where
      go : (g : Float → ℕ) (b : Bool) → g (cond b (diagonal_p p diagonal) p) ≡ cond b (g (diagonal_p p diagonal)) (g p)
      go g true = refl
      go g false = refl

pub sized : (kind d rounds : ℕ) (p : Float) (diagonal : Option Float) → Accepted kind d rounds → length (probabilities kind d rounds p diagonal) ≡ edge_num kind d rounds
unfolding probabilities
sized kind d rounds p diagonal ok = length-map (edges_of kind d rounds) (λ (e : Ends). replaced diagonal p (diagonal_edge kind d rounds e)) ∙ edges-counted kind d ok.distance.three rounds

-- the columns handed back: those of `create_code`, with other p and half weights
abbrev pub with_weights : CodeColumns → List Float → List ℕ → CodeColumns
with_weights mid p h = record {
  ends_a = mid.ends_a;
  ends_b = mid.ends_b;
  p = p;
  pe = mid.pe;
  half_weight = h;
  erasure = mid.erasure;
  pos_i = mid.pos_i;
  pos_j = mid.pos_j;
  pos_t = mid.pos_t;
  boundary = mid.boundary;
  defect = mid.defect;
  list_lengths = mid.list_lengths;
  neighbor_numbers = mid.neighbor_numbers;
}

module _ (kind d rounds : ℕ) (p : Float) (diagonal : Option Float) (max q q₀ n : ℕ) (lent mid : CodeColumns) (r : Result CodeCounts Refusal) (l : Float) (straight other : Weighed) (p' : List Float) (h' : List ℕ)
    (o : Open kind d rounds lent) (k : DiagonalKind kind diagonal) (z : q ≡ 0) (z₀ : q₀ ≡ 0) where
  pub built : CodeCreated kind d rounds q₀ lent mid r → n ≡ edge_num kind d rounds → l ≡ largest_of rounds p diagonal → straight ≡ weighed_of p max l → other ≡ weighed_of (diagonal_p p diagonal) max l
      → EdgesWeighed n (diagonal_at mid.ends_a mid.ends_b mid.pos_i mid.pos_j mid.pos_t) straight other mid.p mid.half_weight p' h'
      → Weighted kind d rounds p diagonal max q lent (with_weights mid p' h') r
  built m e le se oe w =
      let ok = o.ok in
      let count = edges-counted kind d ok.distance.three rounds in
      let long = edges-long kind d rounds lent o in
      let ps : List Float = probabilities kind d rounds p diagonal in
      let hs : List ℕ = half_weights max ps in
      let by : ℕ → Bool = byColumns kind d rounds ok lent.ends_a lent.ends_b lent.pos_i lent.pos_j lent.pos_t in
      let same : diagonal_at mid.ends_a mid.ends_b mid.pos_i mid.pos_j mid.pos_t ≡ by =
      λ c. diagonal_at (wrote q₀ (new_columns kind d rounds).ends_a lent.ends_a z₀ m.columns_after.ends_a_after c) (wrote q₀ (new_columns kind d rounds).ends_b lent.ends_b z₀ m.columns_after.ends_b_after c) (wrote q₀ (new_columns kind d rounds).pos_i lent.pos_i z₀ m.columns_after.pos_i_after c) (wrote q₀ (new_columns kind d rounds).pos_j lent.pos_j z₀ m.columns_after.pos_j_after c) (wrote q₀ (new_columns kind d rounds).pos_t lent.pos_t z₀ m.columns_after.pos_t_after c) in
      let largest : l ≡ largest_weight ps = le ∙ sym (largest_is kind d rounds p diagonal ok k) in
      let in_p : p' ≡ sets mid.p 0 ps =
      w.in_p ∙ ap (sets mid.p 0) ((λ c. each (e c) (λ x. cond (same c x) (oe c).p (se c).p)) ∙ probabilities-are kind d rounds ok lent.ends_a lent.ends_b lent.pos_i lent.pos_j lent.pos_t p diagonal) in
      let in_h : h' ≡ sets mid.half_weight 0 hs =
      w.in_h ∙ ap (sets mid.half_weight 0) ((λ c. each (e c) (λ x. cond (same c x) (oe c).half (se c).half)) ∙ halves_are kind d rounds ok lent.ends_a lent.ends_b lent.pos_i lent.pos_j lent.pos_t p diagonal max l largest) in
      let size-p : length ps ≡ edge_num kind d rounds = sized kind d rounds p diagonal ok in
      let size-h : length hs ≡ edge_num kind d rounds = length-map ps (λ x. half_weight max (edge_weight x) (largest_weight ps)) ∙ size-p in
      let p_is : p' ≡ over ps lent.p = again (edge_num kind d rounds) (replicate (edge_num kind d rounds) zero_float) ps lent.p (length-replicate (edge_num kind d rounds) zero_float) size-p long.long_p (wrote q₀ (new_columns kind d rounds).p lent.p z₀ m.columns_after.p_after) in_p in
      let h-is : h' ≡ over hs lent.half_weight = again (edge_num kind d rounds) (replicate (edge_num kind d rounds) zero) hs lent.half_weight (length-replicate (edge_num kind d rounds) zero) size-h long.long_h (wrote q₀ (new_columns kind d rounds).half_weight lent.half_weight z₀ m.columns_after.half_weight_after) in_h in
      let both : q₀ ≡ q = z₀ ∙ sym z in
      let made = subst (λ (x : ℕ). CodeCreated kind d rounds x lent mid r) both m in
      record {
        answers = made.answers;
        columns_after = record {
          ends_a_after = made.columns_after.ends_a_after;
          ends_b_after = made.columns_after.ends_b_after;
          p_after = p_is ∙ sym (after-accepted q ps lent.p z);
          pe_after = made.columns_after.pe_after;
          half_weight_after = h-is ∙ sym (after-accepted q hs lent.half_weight z);
          erasure_after = made.columns_after.erasure_after;
          pos_i_after = made.columns_after.pos_i_after;
          pos_j_after = made.columns_after.pos_j_after;
          pos_t_after = made.columns_after.pos_t_after;
          boundary_after = made.columns_after.boundary_after;
          defect_after = made.columns_after.defect_after;
          list_lengths_after = made.columns_after.list_lengths_after;
          neighbor_numbers_after = made.columns_after.neighbor_numbers_after;
        };
      }

-- the diagonal probability of `new`
pub diagonal_kind : (kind : ℕ) (p : Float) → DiagonalKind kind (diagonal_of kind p)
diagonal_kind kind p = elim (native.Mathlib.Decide.ℕ_discrete kind 4) [
  | yes e ↦ inl e
  | no f ↦ inr (ap (λ (b : Bool). cond b (new_diagonal p) None) (ne_eqb kind 4 f))
]

pub with_diagonal : {kind d rounds : ℕ} {p : Float} {max : ℕ} {lent back : CodeColumns} {r : Result CodeCounts Refusal} (x y : Option Float) → x ≡ y
    → WeightedCode kind d rounds p x max lent back r → WeightedCode kind d rounds p y max lent back r
with_diagonal {kind} {d} {rounds} {p} {max} {lent} {back} {r} x y e w = subst (λ (z : Option Float). WeightedCode kind d rounds p z max lent back r) e w
