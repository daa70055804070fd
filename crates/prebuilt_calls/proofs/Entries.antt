-- A row written over a column of least weights. Assumes nothing.
use mathlib.Core.Path.{◌≡◌, refl, sym, ap, ◌∙◌}
use mathlib.Core.Bool.{Bool, true, false, ◌&&◌, ◌||◌}
use mathlib.Core.List.{List}
use mathlib.Core.Option.{none}
use Prim.Native.Nat.{ℕ, ◌<◌, ◌≤◌}
use native.Mathlib.Omega.{arith}
use lib.ListN.{length, get_or}
use lib.Seq.{sets}
use lib.IntN.{ℤ, negsuc}
use lib.Dec.{leb, ltb, eqb}
use Rattle.columns.specs.Lists.{each, over}
use Rattle.columns.specs.declared.refusal.Refusal.{Refusal}
use Rattle.columns.specs.declared.refusal.Refusal.TheVariants.{ShortColumn}
use Rattle.columns.specs.Refusals.{number}
use Rattle.columns.proofs.Columns.{over-in, after-accepted, after-refused}
use Rattle.columns.proofs.Counting.{length-each, each_same}
use Rattle.columns.specs.Questions.{ask}
use Rattle.columns_answers.proofs.Said.{accepted-of, refusal-of, refused-of}
use Rattle.engine_walks.specs.Answers.{weight_in, table}
use Rattle.engine_columns.specs.Records.{Engine}
use Rattle.engine_columns.specs.Questions.{engine_long, engine_sound}
use Rattle.engine_columns.proofs.Refusals.{Long, Sound}
use Rattle.columns.proofs.Tests.{and_both}
use Rattle.query_search.proofs.Asked.{query_of}
use borrow.Author.Tests.{leb-true, ltb-true}
use Rattle.engine_walks.specs.Graph.{Graph}
use Rattle.std.specs.Prelude.{None, Ok, Err}
use Rattle.query_questions.specs.Queries.{graph_in, weights_in, query_refusal}
use Rattle.query_questions.specs.Scratch.{ScratchColumns, scratch_fits}
use Rattle.query_tables.specs.Tables.{table_refusal, FoundTable}
use Rattle.query_tables.proofs.Sources.{table-weights_length}
use Rattle.query_search.proofs.Scratch.{scratch_kept}
use Rattle.prebuilt_entries.specs.Entries.{is_virtual, entry_by, row_entry}
use Rattle.prebuilt_entries.proofs.Stored.{over-over}
use Rattle.prebuilt_calls.specs.Rows.{row_refusal, FilledRow}
use Rattle.prebuilt_calls.proofs.Replies.{inside_of, table_there}

-- the row, from the table that stands in its column
pub row-over : (bytes : List ℕ) (nearest : List ℤ) (v : ℕ) (weights column : List ℤ) (n : ℕ) → length weights ≡ n → n ≤ length column
    → sets (over weights column) 0 (each n (row_entry bytes nearest v (over weights column))) ≡ over (each n (row_entry bytes nearest v weights)) column
row-over bytes nearest v weights column n e h =
    ap (λ l. sets (over weights column) 0 l) (each_same n (row_entry bytes nearest v (over weights column)) (row_entry bytes nearest v weights)
    (λ u k. ap (entry_by (is_virtual (get_or bytes v 0) || (is_virtual (get_or bytes u 0) || eqb u v)) (weight_in nearest v) (weight_in nearest u)) (over-in weights column (negsuc 0) u (omega (arith, e, k)))))
    ∙ over-over (each n (row_entry bytes nearest v weights)) weights column (length-each n (row_entry bytes nearest v weights) ∙ sym e) (omega (arith, e, h))

-- what an accepted call says of its columns
pub record RowAsked (e : Engine) (scratch : Bool) (v nearest out before : ℕ) : Type 0 where
  pub long : Long 0 e
  pub sound : Sound e
  pub nearest_long : e.counts.vertices ≤ nearest
  pub out_long : e.counts.vertices ≤ out
  pub before_long : e.counts.vertices ≤ before
  pub scratch_is : scratch ≡ true
  pub v_in : v < e.counts.vertices

module _ (e : Engine) (scratch : Bool) (v nearest out before : ℕ) where
  pub row-asked : row_refusal e scratch v nearest out before ≡ 0 → RowAsked e scratch v nearest out before
  row-asked z =
      let n = e.counts.vertices in
      let q = query_of e _ _ _ z in
      let (x, f) = and_both (leb n nearest) _ q.fits_are in
      let (y, g) = and_both (leb n out) _ f in
      let (w, s) = and_both (leb n before) scratch g in
      record {
        long = q.long;
        sound = q.sound;
        nearest_long = leb-true _ _ x;
        out_long = leb-true _ _ y;
        before_long = leb-true _ _ w;
        scratch_is = s;
        v_in = ltb-true _ _ q.in_range;
      }

-- ---- the questions: that of the column of weights, and those of the table

and-true : (b : Bool) → (b && true) ≡ b
and-true true = refl
and-true false = refl

row_met : (e : Engine) (scratch : Bool) (v nearest out before : ℕ) → leb e.counts.vertices nearest ≡ true → table_refusal e scratch v None out before ≡ row_refusal e scratch v nearest out before
row_met e scratch v nearest out before h =
    let n = e.counts.vertices in
    ap (λ r. query_refusal e (leb n out && (leb n before && scratch)) r 0) (and-true (ltb v n))
    ∙ ap (λ b. query_refusal e (b && (leb n out && (leb n before && scratch))) (ltb v n) 0) (sym h)

row-short : (e : Engine) (scratch : Bool) (v nearest out before : ℕ) → leb e.counts.vertices nearest ≡ false → 6 ≡ row_refusal e scratch v nearest out before
row-short e scratch v nearest out before h =
    let n = e.counts.vertices in
    go (engine_long 0 e) ∙ ap (λ b. query_refusal e (b && (leb n out && (leb n before && scratch))) (ltb v n) 0) (sym h)
  where
    go : (b : Bool) → 6 ≡ ask (b && false) 6 (ask (engine_sound e) 7 (ask (ltb v e.counts.vertices) 13 0))
    go true = refl
    go false = refl

-- ---- the whole call

module _ (e : Engine) (v : ℕ) (nearest out₀ : List ℤ) (before₀ : List ℕ) (scratch₀ : ScratchColumns) where
  abbrev g : Graph
  g = graph_in e

  pub row_filled : {middle out : List ℤ} {before : List ℕ} {scratch : ScratchColumns} → leb e.counts.vertices (length nearest) ≡ true
      → FoundTable e v None (Ok tt) out₀ middle before₀ before scratch₀ scratch → out ≡ sets middle 0 (each e.counts.vertices (row_entry g.boundary nearest v middle))
      → FilledRow e v nearest (Ok tt) out₀ out before₀ before scratch₀ scratch
  row_filled {middle} h t q =
      let there = table_there t in
      let weights = (table g (weights_in e) v none).weights in
      let z : row_refusal e _ v (length nearest) (length out₀) (length before₀) ≡ 0 = sym (row_met e _ v _ _ _ h) ∙ there.met in
      record {
        answers = accepted-of z;
        out_after = q ∙ ap (λ l. sets l 0 (each e.counts.vertices (row_entry g.boundary nearest v l))) there.is_over
            ∙ row-over g.boundary nearest v weights out₀ e.counts.vertices (table-weights_length g (weights_in e) v none) there.room ∙ sym (after-accepted _ _ out₀ z);
        before_after = there.inside.before_after;
        scratch_after = there.inside.scratch_after;
      }
