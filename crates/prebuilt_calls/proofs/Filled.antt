-- What `fill_boundaries` answers and leaves, from its questions and its columns. Assumes nothing.
use mathlib.Core.Path.{◌≡◌, sym, ap, ◌∙◌}
use mathlib.Core.Logic.{◌≢◌}
use mathlib.Core.Bool.{false≢true}
use mathlib.Core.List.{List}
use Prim.Native.Nat.{ℕ}
use native.Mathlib.Omega.{arith}
use lib.ListN.{length}
use lib.IntN.{ℤ}
use Rattle.std.specs.Prelude.{Result, Ok, Err, IsOk}
use Rattle.columns.specs.declared.refusal.Refusal.{Refusal}
use Rattle.columns.specs.Refusals.{number}
use Rattle.columns.specs.Lists.{each}
use Rattle.columns.proofs.Columns.{sets_over, after-accepted, after-refused}
use Rattle.columns.proofs.Counting.{length-each}
use Rattle.columns_answers.proofs.Said.{accepted-of, refusal-of, no_zero}
use Rattle.columns_neighbors.proofs.Ends.{graph-says}
use Rattle.engine_columns.specs.Records.{Engine}
use Rattle.engine_columns.proofs.Refusals.{sound_of}
use Rattle.query_questions.specs.Queries.{graph_in, weights_in}
use Rattle.query_questions.specs.Scratch.{ScratchColumns, scratch_fits, scratch_lengths, is_free}
use Rattle.prebuilt_calls.specs.Boundaries.{boundary_weight, boundary_vertex, boundaries_refusal, FilledBoundaries}
use Rattle.prebuilt_calls.specs.Steps.{AllFilled}
use Rattle.prebuilt_calls.proofs.Asked.{fillable, boundaries-kept}
use Rattle.prebuilt_calls.proofs.Replies.{inside_kept, tables_last}

module _ (e : Engine) (weights₀ : List ℤ) (vertices₀ : List ℕ) (least₀ : List ℤ) (before₀ : List ℕ) (scratch₀ : ScratchColumns) where
  abbrev asked : ℕ
  asked = boundaries_refusal e (scratch_fits e.counts scratch₀) (length weights₀) (length vertices₀) (length least₀) (length before₀)

  pub boundaries_filled : {r : Result (Unit {0}) Refusal} {weights : List ℤ} {vertices : List ℕ} {least : List ℤ} {before : List ℕ} {scratch : ScratchColumns} → asked ≡ 0 → IsOk r
      → AllFilled e weights₀ weights vertices₀ vertices least₀ least before₀ before scratch₀ scratch → FilledBoundaries e r weights₀ weights vertices₀ vertices least₀ least before₀ before scratch₀ scratch
  boundaries_filled {r = Err x} z ok f = absurd (false≢true ok)
  boundaries_filled {r = Ok u} z ok f =
      let n = e.counts.vertices in
      let weight = boundary_weight (graph_in e) (weights_in e) in
      let vertex = boundary_vertex (graph_in e) (weights_in e) in
      let k = fillable e _ _ _ _ (scratch_lengths scratch₀) z in
      let some_vertex = (graph-says n e.counts.edges e.ends_a e.ends_b (sound_of e k.is_sound_holds).columns.graph).some_vertex in
      record {
        answers = accepted-of z;
        weights_after = f.weights_after ∙ sets_over weights₀ (each n weight) (omega (arith, length-each n weight, k.weights_fit)) ∙ sym (after-accepted asked _ weights₀ z);
        vertices_after_holds = f.vertices_after_holds ∙ sets_over vertices₀ (each n vertex) (omega (arith, length-each n vertex, k.vertices_fit)) ∙ sym (after-accepted asked _ vertices₀ z);
        table_after = tables_last n some_vertex f.tables_after;
      }

  pub boundaries_refused : (r : Refusal) → number r ≡ asked → FilledBoundaries e (Err r) weights₀ weights₀ vertices₀ vertices₀ least₀ least₀ before₀ before₀ scratch₀ scratch₀
  boundaries_refused r d =
      let f : asked ≢ 0 = λ z. no_zero r (d ∙ z) in
      record {
        answers = refusal-of r d;
        weights_after = sym (after-refused asked _ weights₀ f);
        vertices_after_holds = sym (after-refused asked _ vertices₀ f);
        table_after = inside_kept (number r) e _ least₀ before₀ scratch₀ (no_zero r) (ap is_free d ∙ boundaries-kept e _ _ _ _ (scratch_lengths scratch₀) f);
      }
