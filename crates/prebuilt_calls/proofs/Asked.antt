-- The questions of a call that fills both columns. Assumes nothing.
use mathlib.Core.Path.{◌≡◌, refl, ap, ◌∙◌}
use mathlib.Core.Logic.{◌≢◌}
use mathlib.Core.Bool.{Bool, true, false, ◌&&◌}
use Prim.Native.Nat.{ℕ, ◌<◌}
use native.Mathlib.Omega.{arith}
use lib.Dec.{leb}
use borrow.Author.Tests.{lt-ltb, le-leb, leb-true}
use Rattle.columns.proofs.Tests.{and_both}
use Rattle.engine_columns.specs.Records.{Engine}
use Rattle.engine_columns.proofs.Refusals.{long_from, sound_from}
use Rattle.std.specs.Prelude.{None}
use Rattle.query_tables.specs.Tables.{table_refusal}
use Rattle.query_questions.specs.Scratch.{is_free, scratch_long, ScratchLengths}
use Rattle.query_search.proofs.Asked.{query_of}
use Rattle.query_search.proofs.Scratch.{query_kept}
use Rattle.prebuilt_calls.specs.Steps.{Fillable}
use Rattle.prebuilt_calls.specs.Boundaries.{boundaries_refusal}

module _ (e : Engine) (weights vertices least before : ℕ) (l : ScratchLengths) where
  abbrev scratch : Bool
  scratch = scratch_long e.counts l

  -- what an accepted call says
  pub fillable : boundaries_refusal e scratch weights vertices least before ≡ 0 → Fillable e weights vertices least before l
  fillable z =
      let n = e.counts.vertices in
      let q = query_of e _ true 0 z in
      let (a, h₁) = and_both (leb n weights) _ q.fits_are in
      let (b, h₂) = and_both (leb n vertices) _ h₁ in
      let (c, h₃) = and_both (leb n least) _ h₂ in
      let (d, s) = and_both (leb n before) scratch h₃ in
      record {
        long = long_from 0 e q.long;
        is_sound_holds = sound_from e q.sound;
        weights_fit = leb-true _ _ a;
        vertices_fit = leb-true _ _ b;
        least_fits = leb-true _ _ c;
        before_fits = leb-true _ _ d;
        scratch_fits_holds = s;
      }

  -- a refused call leaves scratch as it was
  pub boundaries-kept : boundaries_refusal e scratch weights vertices least before ≢ 0 → is_free (boundaries_refusal e scratch weights vertices least before) ≡ false
  boundaries-kept f =
      let n = e.counts.vertices in
      query_kept e (leb n weights && (leb n vertices && (leb n least && (leb n before && scratch)))) true 0 (λ x. absurd (x refl)) f
