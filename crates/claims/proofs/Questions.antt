-- A query's number is 0 exactly where its questions are met: each question is a test, and the tests are read one by one. Assumes nothing.
use mathlib.Core.Path.{◌≡◌, refl, sym, ap, ◌∙◌}
use mathlib.Core.Bool.{Bool, true, not, ◌&&◌}
use mathlib.Core.List.{List}
use Prim.Native.Nat.{ℕ}
use native.Mathlib.Omega.{arith}
use lib.ListN.{length, take}
use lib.Seq.{length-take-le}
use lib.IntN.{ℤ}
use lib.Dec.{leb, eqb}
use borrow.Author.Tests.{le-leb, ltb-true, lt-ltb, ne_eqb}
use Rattle.columns.specs.Limits.{weight_limit}
use Rattle.columns.specs.Questions.{ask}
use Rattle.columns.proofs.Tests.{both_and, within_at}
use Rattle.engine_columns.specs.Records.{Engine}
use Rattle.engine_columns.specs.Questions.{engine_long, engine_sound}
use Rattle.engine_columns.proofs.Refusals.{long_of, long_from, sound_of, sound_from}
use Rattle.engine_walks.specs.Answers.{TableColumns}
use Rattle.query_questions.specs.Queries.{query_refusal}
use Rattle.query_questions.specs.Scratch.{ScratchColumns, scratch_fits}
use Rattle.query_search.proofs.Ranges.{in_range}
use Rattle.std.specs.Prelude.{Option, Some, None}
use Rattle.columns.specs.declared.VertexIndex.{VertexIndex}
use Rattle.query_tables.specs.Ends.{end_in, end_in_range}
use Rattle.query_tables.specs.Tables.{table_refusal}
use Rattle.query_tables.proofs.Tables.{table_of}
use Rattle.query_paths.specs.GetPath.{path_asked}
use Rattle.query_paths.proofs.PathAsked.{path-asked}
use Rattle.query_crossings.proofs.Crossings.{crossing_of}
use Rattle.claims.specs.QueriesCalled.{PathColumns}
use Rattle.claims.specs.Met.{EndWithin, TableMet, PathMet, CrossingMet, ColumnsInRange}

-- 6, 7 and 13 met: the number is that of the later questions
pub query_met : (e : Engine) (fits in_range : Bool) (next : ℕ) → engine_long 0 e ≡ true → fits ≡ true → engine_sound e ≡ true → in_range ≡ true → query_refusal e fits in_range next ≡ next
query_met e fits in_range next p q r s = λ i. ask (both_and p q i) 6 (ask (r i) 7 (ask (s i) 13 next))

-- ---- a table

end_of : (o : Option VertexIndex) (n : ℕ) → end_in_range o n ≡ true → EndWithin n (end_in o)
end_of None n h = tt
end_of (Some b) n h = ltb-true b.0 n h

end_from : (o : Option VertexIndex) (n : ℕ) → EndWithin n (end_in o) → end_in_range o n ≡ true
end_from None n h = refl
end_from (Some b) n h = lt-ltb b.0 n h

module _ (e : Engine) (source : ℕ) (o : Option VertexIndex) (columns : TableColumns) (scratch : ScratchColumns) where
  abbrev pub tableNumber : ℕ
  tableNumber = table_refusal e (scratch_fits e.counts scratch) source o (length columns.weights) (length columns.previous)

  pub table-met : tableNumber ≡ 0 → TableMet e source (end_in o) columns scratch
  table-met z =
      let a = table_of e (scratch_fits e.counts scratch) source o (length columns.weights) (length columns.previous) z in
      record {
        six_and_seven = record {
          graph_long = long_from 0 e a.long;
          written_long = (a.weights_long, (a.previous_long, tt));
          scratch_long_holds = a.scratch_is;
          graph_sound_holds = sound_from e a.sound;
        };
        source_within = a.source_in;
        end_within = end_of o e.counts.vertices a.end_in;
      }

  pub table-number : TableMet e source (end_in o) columns scratch → tableNumber ≡ 0
  table-number m =
      let k = m.six_and_seven in
      query_met e _ _ 0 k.graph_long (both_and (le-leb _ _ k.written_long.0) (both_and (le-leb _ _ k.written_long.1.0) k.scratch_long_holds)) k.graph_sound_holds
      (both_and (lt-ltb _ _ m.source_within) (end_from o e.counts.vertices m.end_within))

-- ---- a path

module _ (e : Engine) (a b : ℕ) (columns : PathColumns) (scratch : ScratchColumns) where
  abbrev pub pathNumber : ℕ
  pathNumber = path_asked e (scratch_fits e.counts scratch) a b (length columns.vertices) (length columns.steps)

  pub path-met : pathNumber ≡ 0 → PathMet e a b columns scratch
  path-met z =
      let q = path-asked e (scratch_fits e.counts scratch) a b (length columns.vertices) (length columns.steps) z in
      record {
        six_and_seven = record {
          graph_long = long_from 0 e q.long;
          written_long = (q.vertices_long, (q.steps_long, tt));
          scratch_long_holds = q.scratch_is;
          graph_sound_holds = sound_from e q.sound;
        };
        a_within = q.a_in;
        b_within = q.b_in;
        differ = λ h. q.differ (sym h);
      }

  pub path-number : PathMet e a b columns scratch → pathNumber ≡ 0
  path-number m =
      let k = m.six_and_seven in
      query_met e _ _ (ask (not (eqb a b)) 16 0) k.graph_long (both_and (le-leb _ _ k.written_long.0) (both_and (le-leb _ _ k.written_long.1.0) k.scratch_long_holds)) k.graph_sound_holds
      (both_and (lt-ltb _ _ m.a_within) (lt-ltb _ _ m.b_within)) ∙ ap (λ x. ask (not x) 16 0) (ne_eqb a b m.differ)

-- ---- a crossing

module _ (e : Engine) (weights : List ℤ) (scratch : ScratchColumns) where
  -- 6 as one test
  abbrev pub longAll : Bool
  longAll = engine_long 0 e && (leb e.counts.vertices (length weights) && scratch_fits e.counts scratch)

  pub crossing-met : longAll ≡ true → engine_sound e ≡ true → CrossingMet e weights scratch
  crossing-met p q =
      let a = crossing_of e (scratch_fits e.counts scratch) (length weights) (λ i. ask (p i) 6 (ask (q i) 7 0)) in
      record { graph_long = long_from 0 e a.long; written_long = (a.weights_long, tt); scratch_long_holds = a.scratch_is; graph_sound_holds = q }

  pub crossing-long : CrossingMet e weights scratch → longAll ≡ true
  crossing-long m = both_and m.graph_long (both_and (le-leb _ _ m.written_long.0) m.scratch_long_holds)

-- ---- the columns

pub columns_in_range : ColumnsInRange
columns_in_range e p q =
    let long = long_of 0 e p in
    let ok = sound_of e q in
    let lw = length-take-le e.counts.edges e.weights long.columns.weights in (
      in_range e long ok,
      length-take-le e.counts.edges e.ends_a long.columns.ends_a,
      λ k h. within_at weight_limit (take e.counts.edges e.weights) ok.columns.weights k (omega (arith, lw, h)),
    )
