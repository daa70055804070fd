-- The columns and the answer of `create_code`, accepted and refused. Assumes nothing.
use mathlib.Core.Path.{◌≡◌, refl, sym, ap, ◌∙◌}
use mathlib.Core.List.{List, ◌++◌}
use Prim.Native.Nat.{ℕ, ◌+◌, ◌*◌, ◌≤◌, ◌<◌}
use native.Mathlib.Omega.{arith}
use lib.ListN.{length, get_or, length-map, get_or-map}
use lib.Dec.{leb}
use borrow.Author.Tests.{leb-true}
use Rattle.columns.specs.Lists.{over, after}
use Rattle.columns.proofs.Columns.{after-accepted, after-refused, length_over, over-in}
use Rattle.columns.proofs.Counting.{each_same, joined_same}
use Rattle.columns.proofs.Tests.{and_both}
use Rattle.columns_neighbors.specs.Lists.{neighbors, hits, degrees, lists, ListsFilled}
use Rattle.columns_neighbors.specs.Steps.{InRange}
use Rattle.codes_writers.specs.Edges.{Ends, firsts, seconds}
use Rattle.codes_layers.specs.Codes.{edges_of}
use Rattle.codes_layers.specs.Counts.{vertex_num, edge_num}
use Rattle.codes_layers.specs.Accepts.{Buildable}
use Rattle.codes_layers.proofs.Accepted.{Accepted, accepted, buildable, ask_zero, edges_few}
use Rattle.codes_layers.proofs.Counted.{edges-counted}
use Rattle.codes_graphs.proofs.AllEdges.{edge-facts}
use Rattle.std.specs.Prelude.{Result, Ok, Err}
use Rattle.codes_calls.specs.declared.CodeCounts.{CodeCounts}
use Rattle.columns.specs.declared.refusal.Refusal.{Refusal}
use Rattle.columns.specs.Refusals.{number}
use Rattle.codes_calls.specs.Columns.{CodeColumns, edge_room, vertex_room, long_enough, HandedBack}
use Rattle.columns_answers.proofs.Said.{accepted-of, refusal-of, no_zero}
use Rattle.codes_calls.specs.CreateCode.{code_counts, create_refusal, refusal_in, new_columns, CodeCreated, CreateCode}
use Rattle.codes_calls.specs.Steps.{EdgeColumnsLong, EdgeColumnsFilled, VertexColumnsLong, VertexColumnsFilled}

-- ---- the number, by the columns' lengths

pub create_number : (kind d rounds q vr er nl vr' er' nl' : ℕ) → q ≡ create_refusal kind d rounds vr er nl → vr ≡ vr' → er ≡ er' → nl ≡ nl' → q ≡ create_refusal kind d rounds vr' er' nl'
create_number kind d rounds q vr er nl vr' er' nl' a b c e = cc

-- ---- room, where no question is answered no

pub record Open (kind d rounds : ℕ) (lent : CodeColumns) : Type 0 where
  pub code : Buildable kind d rounds
  pub ok : Accepted kind d rounds
  pub vertices : vertex_num kind d rounds ≤ vertex_room lent
  pub edges : edge_num kind d rounds ≤ edge_room lent
  pub numbers : 2 * edge_num kind d rounds ≤ length lent.neighbor_numbers

pub opened : (kind d rounds : ℕ) (lent : CodeColumns) → refusal_in kind d rounds lent ≡ 0 → Open kind d rounds lent
unfolding create_refusal long_enough
opened kind d rounds lent e =
    let a = accepted kind d rounds _ e in
    let b = ask_zero (long_enough (vertex_num kind d rounds) (edge_num kind d rounds) (vertex_room lent) (edge_room lent) (length lent.neighbor_numbers)) 6 0 a.1 (omega arith) in
    let p = and_both (leb (vertex_num kind d rounds) (vertex_room lent)) _ b.0 in
    let q = and_both (leb (edge_num kind d rounds) (edge_room lent)) (leb (2 * edge_num kind d rounds) (length lent.neighbor_numbers)) p.1 in
    record {
      code = buildable kind d rounds _ e;
      ok = a.0;
      vertices = leb-true _ _ p.0;
      edges = leb-true _ _ q.0;
      numbers = leb-true _ _ q.1;
    }

-- the same by the columns' lengths, as they were asked
module _ (kind d rounds : ℕ) (lent : CodeColumns) {vr er : ℕ} (z : 0 ≡ create_refusal kind d rounds vr er (length lent.neighbor_numbers)) (v : vr ≡ vertex_room lent) (e : er ≡ edge_room lent) where
  pub accepted-number : refusal_in kind d rounds lent ≡ 0
  accepted-number = sym (create_number kind d rounds 0 vr er _ _ _ _ z v e refl)

  pub open_of : Open kind d rounds lent
  open_of = opened kind d rounds lent accepted-number

module _ (kind d rounds : ℕ) (lent : CodeColumns) (o : Open kind d rounds lent) where
  pub edges-long : EdgeColumnsLong (edge_num kind d rounds) lent.ends_a lent.ends_b lent.p lent.pe lent.half_weight lent.erasure
  edges-long = record {
    long_a = omega (arith, o.edges);
    long_b = omega (arith, o.edges);
    long_p = omega (arith, o.edges);
    long_pe = omega (arith, o.edges);
    long_h = omega (arith, o.edges);
    long_er = omega (arith, o.edges);
  }

  pub vertices_long : VertexColumnsLong (vertex_num kind d rounds) lent.pos_i lent.pos_j lent.pos_t lent.boundary lent.defect
  vertices_long = record {
    long_i = omega (arith, o.vertices);
    long_j = omega (arith, o.vertices);
    long_t = omega (arith, o.vertices);
    long_m = omega (arith, o.vertices);
    long_df = omega (arith, o.vertices);
  }

-- ---- neighbour lists read the first places alone

module _ (a b a' b' : List ℕ) (e : ℕ) (p : (k : ℕ) → k < e → get_or a k 0 ≡ get_or a' k 0) (q : (k : ℕ) → k < e → get_or b k 0 ≡ get_or b' k 0) where
  neighbors-same : (v : ℕ) → neighbors a b e v ≡ neighbors a' b' e v
  unfolding neighbors
  neighbors-same v = joined_same e _ _ (λ k l. λ i. hits v (p k l i) k ++ hits v (q k l i) k)

  pub degrees-same : (n : ℕ) → degrees a b e n ≡ degrees a' b' e n
  unfolding degrees
  degrees-same n = each_same n _ _ (λ v l. ap length (neighbors-same v))

  pub lists-same : (n : ℕ) → lists a b e n ≡ lists a' b' e n
  unfolding lists
  lists-same n = joined_same n _ _ (λ v l. neighbors-same v)

-- the built ends within their columns
module _ (kind d rounds : ℕ) (ok : Accepted kind d rounds) where
  abbrev es : List Ends
  es = edges_of kind d rounds

  count : length es ≡ edge_num kind d rounds
  count = edges-counted kind d ok.distance.three rounds

  first-at : (a₀ : List ℕ) (k : ℕ) → k < edge_num kind d rounds → get_or (over (firsts es) a₀) k 0 ≡ get_or (firsts es) k 0
  first-at a₀ k h = over-in (firsts es) a₀ 0 k (omega (arith, count, length-map es (λ (e : Ends). e.0)))

  second_at : (b₀ : List ℕ) (k : ℕ) → k < edge_num kind d rounds → get_or (over (seconds es) b₀) k 0 ≡ get_or (seconds es) k 0
  second_at b₀ k h = over-in (seconds es) b₀ 0 k (omega (arith, count, length-map es (λ (e : Ends). e.1)))

  pub ends-in : (a₀ b₀ : List ℕ) → InRange (over (firsts es) a₀) (edge_num kind d rounds) (vertex_num kind d rounds) × InRange (over (seconds es) b₀) (edge_num kind d rounds) (vertex_num kind d rounds)
  ends-in a₀ b₀ =
      let f = edge-facts kind d rounds ok in (
        λ k h. rw (first-at a₀ k h, get_or-map (λ (e : Ends). e.0) es k (0, 0)) (omega (arith, f.rising k (omega (arith, count)), f.within k (omega (arith, count)))),
        λ k h. rw (second_at b₀ k h, get_or-map (λ (e : Ends). e.1) es k (0, 0)) (f.within k (omega (arith, count))),
      )

-- what `fill_lists` requires
pub lists_fit : (kind d rounds : ℕ) (lent : CodeColumns) → Open kind d rounds lent → (a b ends : List ℕ) (e v : ℕ) → a ≡ over (firsts (edges_of kind d rounds)) lent.ends_a → b ≡ over (seconds (edges_of kind d rounds)) lent.ends_b
    → e ≡ edge_num kind d rounds → v ≡ vertex_num kind d rounds → length ends ≡ 4096
    → ((e ≤ length a) × ((e ≤ length b) × ((v ≤ length lent.list_lengths) × ((v ≤ length ends) × (2 * e ≤ length lent.neighbor_numbers))))) × ((e ≤ 32768) × (InRange a e v × InRange b e v))
lists_fit kind d rounds lent o a b ends e v p q m n l =
    let la = length_over (firsts (edges_of kind d rounds)) lent.ends_a (omega (arith, count kind d rounds o.ok, length-map (edges_of kind d rounds) (λ (x : Ends). x.0), o.edges)) in
    let lb = length_over (seconds (edges_of kind d rounds)) lent.ends_b (omega (arith, count kind d rounds o.ok, length-map (edges_of kind d rounds) (λ (x : Ends). x.1), o.edges)) in
    rw (p, q, m, n) (omega (arith, la, lb, o.edges, o.vertices, o.numbers, l, o.ok.few_vertices), (omega (arith, edges_few kind d rounds o.ok), ends-in kind d rounds o.ok lent.ends_a lent.ends_b))

-- ---- the outcome

-- what a column holds, where every question is met
yes : {A : Type 0} (q : ℕ) (vs lent : List A) {back : List A} → q ≡ 0 → back ≡ over vs lent → back ≡ after q vs lent
yes q vs lent z e = e ∙ sym (after-accepted q vs lent z)

pub kept_back : (q : ℕ) (new lent : CodeColumns) → (q ≡ 0 → ⊥) → HandedBack q new lent lent
kept_back q new lent f = record {
  ends_a_after = sym (after-refused q new.ends_a lent.ends_a f);
  ends_b_after = sym (after-refused q new.ends_b lent.ends_b f);
  p_after = sym (after-refused q new.p lent.p f);
  pe_after = sym (after-refused q new.pe lent.pe f);
  half_weight_after = sym (after-refused q new.half_weight lent.half_weight f);
  erasure_after = sym (after-refused q new.erasure lent.erasure f);
  pos_i_after = sym (after-refused q new.pos_i lent.pos_i f);
  pos_j_after = sym (after-refused q new.pos_j lent.pos_j f);
  pos_t_after = sym (after-refused q new.pos_t lent.pos_t f);
  boundary_after = sym (after-refused q new.boundary lent.boundary f);
  defect_after = sym (after-refused q new.defect lent.defect f);
  list_lengths_after = sym (after-refused q new.list_lengths lent.list_lengths f);
  neighbor_numbers_after = sym (after-refused q new.neighbor_numbers lent.neighbor_numbers f);
}

pub refused : (kind d rounds : ℕ) (lent : CodeColumns) {answer : Result CodeCounts Refusal} {r : Refusal} → answer ≡ Err r → number r ≡ refusal_in kind d rounds lent → CreateCode kind d rounds lent lent answer
refused kind d rounds lent {answer} {r} a e =
    let q = refusal_in kind d rounds lent in
    record { answers = rw a (refusal-of r e); columns_after = kept_back q (new_columns kind d rounds) lent (λ z. no_zero r (e ∙ z)) }

module _ (kind d rounds q : ℕ) (lent back : CodeColumns) (z : q ≡ 0) (o : Open kind d rounds lent) (e v : ℕ) (list-ends : List ℕ) where
  pub built : EdgeColumnsFilled kind d rounds lent.ends_a lent.ends_b lent.p lent.pe lent.half_weight lent.erasure back.ends_a back.ends_b back.p back.pe back.half_weight back.erasure e
      → VertexColumnsFilled kind d rounds lent.pos_i lent.pos_j lent.pos_t lent.boundary lent.defect back.pos_i back.pos_j back.pos_t back.boundary back.defect v
      → ListsFilled back.ends_a back.ends_b e v lent.list_lengths lent.neighbor_numbers back.list_lengths back.neighbor_numbers list-ends
      → CodeCreated kind d rounds q lent back (Ok (code_counts v e))
  built x y l =
      let a : List ℕ = firsts (edges_of kind d rounds) in
      let b : List ℕ = seconds (edges_of kind d rounds) in
      let pa : (k : ℕ) → k < edge_num kind d rounds → get_or back.ends_a k 0 ≡ get_or a k 0 = λ k h. ap (λ (r : List ℕ). get_or r k 0) x.in_a ∙ first-at kind d rounds o.ok lent.ends_a k h in
      let pb : (k : ℕ) → k < edge_num kind d rounds → get_or back.ends_b k 0 ≡ get_or b k 0 = λ k h. ap (λ (r : List ℕ). get_or r k 0) x.in_b ∙ second_at kind d rounds o.ok lent.ends_b k h in
      record {
        answers = rw (y.count, x.count) (accepted-of z);
        columns_after = record {
          ends_a_after = yes q (new_columns kind d rounds).ends_a lent.ends_a z x.in_a;
          ends_b_after = yes q (new_columns kind d rounds).ends_b lent.ends_b z x.in_b;
          p_after = yes q (new_columns kind d rounds).p lent.p z x.in_p;
          pe_after = yes q (new_columns kind d rounds).pe lent.pe z x.in_pe;
          half_weight_after = yes q (new_columns kind d rounds).half_weight lent.half_weight z x.in_h;
          erasure_after = yes q (new_columns kind d rounds).erasure lent.erasure z x.in_er;
          pos_i_after = yes q (new_columns kind d rounds).pos_i lent.pos_i z y.in_i;
          pos_j_after = yes q (new_columns kind d rounds).pos_j lent.pos_j z y.in_j;
          pos_t_after = yes q (new_columns kind d rounds).pos_t lent.pos_t z y.in_t;
          boundary_after = yes q (new_columns kind d rounds).boundary lent.boundary z y.in_m;
          defect_after = yes q (new_columns kind d rounds).defect lent.defect z y.in_df;
          list_lengths_after = yes q (new_columns kind d rounds).list_lengths lent.list_lengths z (l.lengths_are ∙ ap (λ (r : List ℕ). over r lent.list_lengths) ((λ i. degrees back.ends_a back.ends_b (x.count i) (y.count i)) ∙ degrees-same back.ends_a back.ends_b a b (edge_num kind d rounds) pa pb (vertex_num kind d rounds)));
          neighbor_numbers_after = yes q (new_columns kind d rounds).neighbor_numbers lent.neighbor_numbers z (l.numbers_are ∙ ap (λ (r : List ℕ). over r lent.neighbor_numbers) ((λ i. lists back.ends_a back.ends_b (x.count i) (y.count i)) ∙ lists-same back.ends_a back.ends_b a b (edge_num kind d rounds) pa pb (vertex_num kind d rounds)));
        };
      }
