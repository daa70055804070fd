-- What an accepted table query says of its columns. Assumes nothing.
use mathlib.Core.Path.{◌≡◌, refl, sym, ap, ◌∙◌, subst}
use mathlib.Core.Logic.{◌≢◌}
use mathlib.Core.Bool.{Bool, true, false, ◌&&◌}
use mathlib.Core.List.{List}
use mathlib.Core.Option as Maybe
use Prim.Native.Nat.{ℕ, ◌<◌, ◌≤◌}
use lib.ListN.{length, take}
use lib.IntN.{ℤ}
use lib.Dec.{leb, ltb}
use borrow.Author.Tests.{leb-true, ltb-true}
use Rattle.std.specs.Prelude.{Option, Ok, Err}
use Rattle.columns.specs.declared.VertexIndex.{VertexIndex}
use Rattle.columns.specs.declared.refusal.Refusal.{Refusal}
use Rattle.columns.specs.Refusals.{number}
use Rattle.columns.specs.Lists.{each, over}
use Rattle.columns.proofs.Tests.{and_both}
use Rattle.columns.proofs.Columns.{after-accepted, after-refused}
use Rattle.columns_answers.proofs.Said.{accepted-of, refusal-of, no_zero}
use Rattle.engine_columns.specs.Records.{Engine}
use Rattle.engine_columns.proofs.Refusals.{Long, Sound}
use Rattle.engine_walks.specs.Graph.{Graph}
use Rattle.engine_walks.specs.Settling.{State, settled}
use Rattle.engine_walks.specs.Answers.{only, table, table_weight, table_previous}
use Rattle.query_relaxing.specs.Ready.{state_of, end_of}
use Rattle.query_questions.specs.Queries.{graph_in, weights_in}
use Rattle.query_questions.specs.Scratch.{ScratchColumns, scratch_fits, is_free, SearchAfter}
use Rattle.query_search.specs.Search.{Settles}
use Rattle.query_search.proofs.Asked.{query_of}
use Rattle.query_search.proofs.Scratch.{query_kept, scratch_free, scratch_kept}
use Rattle.query_search.proofs.Reading.{state-read}
use Rattle.query_tables.specs.Ends.{end_in, end_in_range, stop_of}
use Rattle.query_tables.specs.Tables.{table_refusal, FoundTable}
use Rattle.query_tables.proofs.Sources.{stop_same}

pub record TableAsked (e : Engine) (scratch : Bool) (source : ℕ) (end : Option VertexIndex) (weights previous : ℕ) : Type 0 where
  pub long : Long 0 e
  pub sound : Sound e
  pub weights_long : e.counts.vertices ≤ weights
  pub previous_long : e.counts.vertices ≤ previous
  pub scratch_is : scratch ≡ true
  pub source_in : source < e.counts.vertices
  pub end_in : end_in_range end e.counts.vertices ≡ true

module _ (e : Engine) (scratch : Bool) (source : ℕ) (end : Option VertexIndex) (weights previous : ℕ) where
  pub table_of : table_refusal e scratch source end weights previous ≡ 0 → TableAsked e scratch source end weights previous
  table_of z =
      let v = e.counts.vertices in
      let q = query_of e _ _ _ z in
      let (w, f) = and_both (leb v weights) _ q.fits_are in
      let (p, s) = and_both (leb v previous) scratch f in
      let (a, b) = and_both (ltb source v) _ q.in_range in
      record {
        long = q.long;
        sound = q.sound;
        weights_long = leb-true _ _ w;
        previous_long = leb-true _ _ p;
        scratch_is = s;
        source_in = ltb-true _ _ a;
        end_in = b;
      }

  -- a refused query leaves scratch as it was
  pub kept-number : table_refusal e scratch source end weights previous ≢ 0 → is_free (table_refusal e scratch source end weights previous) ≡ false
  kept-number f =
      let v = e.counts.vertices in
      query_kept e (leb v weights && (leb v previous && scratch)) (ltb source v && end_in_range end v) 0 (λ x. absurd (x refl)) f

-- ---- the whole call

module _ (e : Engine) (source : ℕ) (end : Option VertexIndex) (weights₀ : List ℤ) (previous₀ : List ℕ) (scratch₀ : ScratchColumns) where
  abbrev asked : ℕ
  asked = table_refusal e (scratch_fits e.counts scratch₀) source end (length weights₀) (length previous₀)

  abbrev g : Graph
  g = graph_in e

  abbrev state_to : Maybe.Option ℕ → State
  state_to o = settled g (weights_in e) (only source) o

  -- the state that is read from scratch
  abbrev read : ScratchColumns → State
  read scratch = state_of (take g.vertices scratch.status) (take g.vertices scratch.weight) (take g.vertices scratch.previous)

  pub table_found : {weights : List ℤ} {previous : List ℕ} {scratch : ScratchColumns} (stop : ℕ) → asked ≡ 0 → stop ≡ stop_of end source g.vertices
      → SearchAfter g (state_to (end_of g.vertices stop)) scratch₀ scratch → Settles g.vertices (state_to (end_of g.vertices stop))
      → weights ≡ over (each g.vertices (table_weight (read scratch))) weights₀ → previous ≡ over (each g.vertices (table_previous (read scratch))) previous₀
      → FoundTable e source end (Ok tt) weights₀ weights previous₀ previous scratch₀ scratch
  unfolding table
  table_found {scratch = scratch} stop z at after_search ok w p =
      let k = table_of e _ source end _ _ z in
      let same : state_to (end_of g.vertices stop) ≡ state_to (end_in end) = ap (λ n. state_to (end_of g.vertices n)) at ∙ stop_same g (weights_in e) source end k.end_in in
      let state : read scratch ≡ state_to (end_in end) = state-read after_search ok ∙ same in
      record {
        answers = accepted-of z;
        weights_after = w ∙ ap (λ s. over (each g.vertices (table_weight s)) weights₀) state ∙ sym (after-accepted asked _ weights₀ z);
        previous_after = p ∙ ap (λ s. over (each g.vertices (table_previous s)) previous₀) state ∙ sym (after-accepted asked _ previous₀ z);
        scratch_after = scratch_free 0 g _ scratch₀ scratch refl (subst (λ s. SearchAfter g s scratch₀ scratch) same after_search);
      }

  pub table_refused : (r : Refusal) → number r ≡ asked → FoundTable e source end (Err r) weights₀ weights₀ previous₀ previous₀ scratch₀ scratch₀
  table_refused r d =
      let f : asked ≢ 0 = λ z. no_zero r (d ∙ z) in
      record {
        answers = refusal-of r d;
        weights_after = sym (after-refused asked _ weights₀ f);
        previous_after = sym (after-refused asked _ previous₀ f);
        scratch_after = scratch_kept _ g _ scratch₀ (ap is_free d ∙ kept-number e _ source end _ _ f);
      }
