-- An accepted `fill_boundaries`, an accepted `get_boundary_weight`, and an accepted `fill_row` over the column of boundary weights. Assumes nothing.
use mathlib.Core.Path.{◌≡◌, refl, sym, ap, ◌∙◌, subst}
use mathlib.Core.Logic.{inl, inr}
use mathlib.Core.Bool.{Bool, true, false, cond, ◌||◌}
use mathlib.Core.List.{List}
use mathlib.Core.Option.{Option, some, none}
use Prim.Native.Nat.{ℕ, ◌<◌}
use native.Mathlib.Omega.{arith}
use lib.ListN.{length, get_or}
use lib.Dec.{eqb}
use lib.IntN.{ℤ, pos, negsuc}
use Rattle.columns.specs.Lists.{each, after}
use Rattle.columns_answers.proofs.Said.{zero_of, values_of}
use Rattle.std.specs.Prelude.{None, Result, Ok}
use Rattle.std.specs.Prelude as std
use Rattle.columns.specs.declared.refusal.Refusal.{Refusal}
use Rattle.columns.proofs.Columns.{after-accepted, over-in}
use Rattle.columns.proofs.Counting.{length-each, getD-each}
use Rattle.engine_columns.specs.Records.{Engine}
use Rattle.engine_columns.proofs.Refusals.{long_of, sound_of}
use Rattle.engine_walks.specs.Graph.{Graph, GraphInRange, LeastWeight}
use Rattle.engine_walks.specs.Answers.{weight_in, table}
use Rattle.engine_walks.specs.Claims.{Row}
use Rattle.engine_walks.proofs.TableAndPath.{table_is_least}
use Rattle.query_questions.specs.Queries.{graph_in, weights_in}
use Rattle.query_search.proofs.Ranges.{in_range}
use Rattle.prebuilt_entries.specs.Entries.{in_the_middle, row_entry, entry_by}
use Rattle.prebuilt_calls.specs.Rows.{FilledRow, row_refusal}
use Rattle.prebuilt_calls.proofs.Entries.{row-asked}
use Rattle.prebuilt_calls.proofs.Asked.{fillable}
use Rattle.prebuilt_calls.specs.declared.nearest.BoundaryVertex.{BoundaryVertex}
use Rattle.prebuilt_calls.specs.Nearest.{nearest_said, boundary_found}
use Rattle.query_tables.proofs.Tables.{table_of}
use Rattle.prebuilt_calls.specs.Boundaries as ours
use Rattle.prebuilt_claims.specs.Prebuilt.{virtual, get_boundary_weight, get_edge_weight, edge_entry, weight_entry, vertex_entry, boundary_values}
use Rattle.prebuilt_claims.specs.Called.{BoundariesFilled, RowFilled, BoundaryAsked}
use Rattle.prebuilt_claims.specs.Called as called
use Rattle.prebuilt_claims.specs.PrebuiltRows.{PrebuiltRows}
use Rattle.prebuilt_claims.proofs.Scans.{peerOf, scanned, weight-column, vertex-column, entry-is}
use Rattle.prebuilt_claims.proofs.Edges.{no-edge-when}
use Rattle.prebuilt_claims.proofs.Boundaries.{BoundaryIs, boundary_is, entry-nearest, entry_none, values-nearest, values-none}
use Rattle.query_questions.specs.Scratch.{scratch_fits, ScratchColumns}

module _ {A : Type 0} where
  -- a place of a column that an accepted call has filled
  at_place : (q n : ℕ) (f : ℕ → A) (column₀ column : List A) (d : A) → q ≡ 0 → column ≡ after q (each n f) column₀ → (v : ℕ) → v < n → get_or column v d ≡ f v
  at_place q n f column₀ column d z e v h =
      ap (λ l. get_or l v d) (e ∙ after-accepted q (each n f) column₀ z) ∙ over-in (each n f) column₀ d v (omega (arith, length-each n f, h)) ∙ getD-each n f d v h

module _ (e : Engine) (weights₀ weights : List ℤ) (vertices₀ vertices : List ℕ) (least₀ least : List ℤ) (before₀ before : List ℕ) (scratch₀ scratch : ScratchColumns)
    (s : ours.FilledBoundaries e (Ok tt) weights₀ weights vertices₀ vertices least₀ least before₀ before scratch₀ scratch) where
  abbrev refusal : ℕ
  refusal = ours.boundaries_refusal e (scratch_fits e.counts scratch₀) (length weights₀) (length vertices₀) (length least₀) (length before₀)

  met : refusal ≡ 0
  met = zero_of s.answers

  weight-at : (v : ℕ) → v < e.counts.vertices → weight_in weights v ≡ weight_entry (get_boundary_weight (graph_in e) (weights_in e) v)
  weight-at v h =
      at_place refusal e.counts.vertices (ours.boundary_weight (graph_in e) (weights_in e)) weights₀ weights (negsuc 0) met s.weights_after v h ∙ weight-column (graph_in e) (weights_in e) v

  vertex-at : (v : ℕ) → v < e.counts.vertices → get_or vertices v 0 ≡ vertex_entry (get_boundary_weight (graph_in e) (weights_in e) v)
  vertex-at v h =
      at_place refusal e.counts.vertices (ours.boundary_vertex (graph_in e) (weights_in e)) vertices₀ vertices 0 met s.vertices_after_holds v h ∙ vertex-column (graph_in e) (weights_in e) v

pub weight_of_lem : (e : Engine) (weights : List ℤ) (vertices : List ℕ) → BoundariesFilled e weights vertices → (v : ℕ) → v < e.counts.vertices
    → weight_in weights v ≡ weight_entry (get_boundary_weight (graph_in e) (weights_in e) v)
weight_of_lem e weights vertices (called.BoundariesFilled.boundaries_filled κs a s l) v h = weight-at e _ weights _ vertices _ _ _ _ _ _ l v h

pub vertex_of_lem : (e : Engine) (weights : List ℤ) (vertices : List ℕ) → BoundariesFilled e weights vertices → (v : ℕ) → v < e.counts.vertices
    → get_or vertices v 0 ≡ vertex_entry (get_boundary_weight (graph_in e) (weights_in e) v)
vertex_of_lem e weights vertices (called.BoundariesFilled.boundaries_filled κs a s l) v h = vertex-at e _ weights _ vertices _ _ _ _ _ _ l v h

module _ (e : Engine) (v : ℕ) (near out₀ out : List ℤ) (before₀ before : List ℕ) (scratch₀ scratch : ScratchColumns) (s : FilledRow e v near (Ok tt) out₀ out before₀ before scratch₀ scratch)
    (b : (v : ℕ) → v < e.counts.vertices → weight_in near v ≡ weight_entry (get_boundary_weight (graph_in e) (weights_in e) v)) where
  abbrev number : ℕ
  number = row_refusal e (scratch_fits e.counts scratch₀) v (length near) (length out₀) (length before₀)

  none-asked : number ≡ 0
  none-asked = zero_of s.answers

  row_at : (u : ℕ) → u < e.counts.vertices → weight_in out u ≡ edge_entry (get_edge_weight (graph_in e) (weights_in e) v u)
  row_at u h =
      let g = graph_in e in
      let w = weights_in e in
      let q = row-asked e (scratch_fits e.counts scratch₀) v (length near) (length out₀) (length before₀) none-asked in
      let own = b v q.v_in in
      let other = b u h in
      at_place number e.counts.vertices (row_entry g.boundary near v (table g w v none).weights) out₀ out (negsuc 0) none-asked s.out_after u h
      ∙ (λ i. entry_by (virtual g v || (virtual g u || eqb u v)) (own i) (other i) (weight_in (table g w v none).weights u))
      ∙ entry-is g w v u h

pub row_of : (e : Engine) (v : ℕ) (near out : List ℤ) → RowFilled e v near out
    → ((v : ℕ) → v < e.counts.vertices → weight_in near v ≡ weight_entry (get_boundary_weight (graph_in e) (weights_in e) v))
    → (u : ℕ) → u < e.counts.vertices → weight_in out u ≡ edge_entry (get_edge_weight (graph_in e) (weights_in e) v u)
row_of e v near out (called.RowFilled.row_filled κs a s l) b u h = row_at e v near _ out _ _ _ _ l b u h

-- ---- least weights

kept : (hidden middle : Bool) (z : ℤ) (k : ℕ) → cond hidden (negsuc 0) (cond middle (negsuc 0) z) ≡ pos k → z ≡ pos k
kept true middle z k e = absurd (let q : ◌≡◌ {A = ℕ} 0 1 = cc in omega arith)
kept false true z k e = absurd (let q : ◌≡◌ {A = ℕ} 0 1 = cc in omega arith)
kept false false z k e = e

least_in : (g : Graph) (w : ℕ → ℕ) (v u k : ℕ) → Row g w v (table g w v none) u → weight_in (table g w v none).weights u ≡ pos k → LeastWeight g w (λ x. x ≡ v) u k
least_in g w v u k (inl r) e = let q : r.0 ≡ k = (let s = r.1 in cc) in subst (LeastWeight g w (λ x. x ≡ v) u) q r.2
least_in g w v u k (inr r) e = absurd (let q : ◌≡◌ {A = ℕ} 0 1 = (let s = r.0 in cc) in omega arith)

module _ (e : Engine) (v : ℕ) (near out₀ out : List ℤ) (before₀ before : List ℕ) (scratch₀ scratch : ScratchColumns) (s : FilledRow e v near (Ok tt) out₀ out before₀ before scratch₀ scratch) where
  abbrev question : ℕ
  question = row_refusal e (scratch_fits e.counts scratch₀) v (length near) (length out₀) (length before₀)

  least_at : (u k : ℕ) → u < e.counts.vertices → weight_in out u ≡ pos k → LeastWeight (graph_in e) (weights_in e) (λ x. x ≡ v) u k
  least_at u k h p =
      let g = graph_in e in
      let w = weights_in e in
      let z : question ≡ 0 = zero_of s.answers in
      let q = row-asked e (scratch_fits e.counts scratch₀) v (length near) (length out₀) (length before₀) z in
      let x = at_place question e.counts.vertices (row_entry g.boundary near v (table g w v none).weights) out₀ out (negsuc 0) z s.out_after u h in
      let y = kept (virtual g v || (virtual g u || eqb u v)) (in_the_middle (weight_in near v) (weight_in near u) (weight_in (table g w v none).weights u)) (weight_in (table g w v none).weights u) k (sym x ∙ p) in
      least_in g w v u k ((table_is_least g w v none (in_range e q.long q.sound) q.v_in).rows u h) y

least_of : (e : Engine) (v : ℕ) (near out : List ℤ) → RowFilled e v near out → (u k : ℕ) → u < e.counts.vertices → weight_in out u ≡ pos k
    → LeastWeight (graph_in e) (weights_in e) (λ x. x ≡ v) u k
least_of e v near out (called.RowFilled.row_filled κs a s l) u k h p = least_at e v near _ out _ _ _ _ l u k h p

-- ---- boundary weights and walks

-- what an accepted call of either function says of its columns
fill_range : (e : Engine) (weights : List ℤ) (vertices : List ℕ) → BoundariesFilled e weights vertices → GraphInRange (graph_in e)
fill_range e weights vertices (called.BoundariesFilled.boundaries_filled κs a s l) =
    let f = fillable e _ _ _ _ _ (zero_of l.answers) in
    in_range e (long_of 0 e f.long) (sound_of e f.is_sound_holds)

record Asked (e : Engine) (v : ℕ) (r : Result (std.Option BoundaryVertex) Refusal) : Type 0 where
  pub values_are : (nearest_said r).values ≡ boundary_values (get_boundary_weight (graph_in e) (weights_in e) v)
  pub boundary : BoundaryIs (graph_in e) (weights_in e) v (get_boundary_weight (graph_in e) (weights_in e) v)

asked_of : (e : Engine) (v : ℕ) (r : Result (std.Option BoundaryVertex) Refusal) → BoundaryAsked e v r → (nearest_said r).number ≡ 0 → Asked e v r
asked_of e v r (called.BoundaryAsked.boundary_asked κs a q s l) z =
    let g = graph_in e in
    let w = weights_in e in
    let t = table_of e _ v None _ _ (sym l.answers.number_is ∙ z) in
    record {
      values_are = values_of l.answers (sym l.answers.number_is ∙ z) ∙ found-is (ours.nearest_of g w v) ∙ ap boundary_values (sym (scanned g w v));
      boundary = boundary_is g w v (in_range e t.long t.sound) t.source_in;
    }
  where
    found-is : (o : Option ℕ) → boundary_found (ours.weights_from (graph_in e) (weights_in e) v) o ≡ boundary_values (peerOf (graph_in e) (weights_in e) v o)
    found-is none = refl
    found-is (some u) = refl

row_in : (e : Engine) (v : ℕ) (near out : List ℤ) → RowFilled e v near out → v < e.counts.vertices
row_in e v near out (called.RowFilled.row_filled κs a s l) = (row-asked e _ v _ _ _ (zero_of l.answers)).v_in

pub prebuilt_rows : PrebuiltRows
prebuilt_rows = record {
  boundaries = λ e weights vertices f v h. (weight_of_lem e weights vertices f v h, vertex_of_lem e weights vertices f v h);
  nearest = λ e weights vertices f v k h p.
      entry-nearest (graph_in e) (weights_in e) v (get_boundary_weight (graph_in e) (weights_in e) v) (boundary_is (graph_in e) (weights_in e) v (fill_range e weights vertices f) h) _ _ k (weight_of_lem e weights vertices f v h) (vertex_of_lem e weights vertices f v h) p;
  none_nearest = λ e weights vertices f v h.
      entry_none (graph_in e) (weights_in e) v (get_boundary_weight (graph_in e) (weights_in e) v) (boundary_is (graph_in e) (weights_in e) v (fill_range e weights vertices f) h) _ (weight_of_lem e weights vertices f v h);
  asked = λ e v r a z. (asked_of e v r a z).values_are;
  asked_nearest = λ e v r a u k p.
      let b = asked_of e v r a (ap (λ x. x.number) p) in
      values-nearest (graph_in e) (weights_in e) v (get_boundary_weight (graph_in e) (weights_in e) v) b.boundary u k (sym (ap (λ x. x.values) p) ∙ b.values_are);
  asked_none = λ e v r a z. let b = asked_of e v r a z in values-none (graph_in e) (weights_in e) v (get_boundary_weight (graph_in e) (weights_in e) v) b.boundary _ b.values_are;
  rows = λ e weights vertices f v out r u h. row_of e v weights out r (weight_of_lem e weights vertices f) u h;
  no_edge = λ e weights vertices f v out r u h.
      no-edge-when (graph_in e) (weights_in e) (fill_range e weights vertices f) v u (row_in e v weights out r) h _ (row_of e v weights out r (weight_of_lem e weights vertices f) u h);
  least = λ e v weights out r u k h p. least_of e v weights out r u k h p;
}
