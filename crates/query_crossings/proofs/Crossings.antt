-- What a settled state says of a crossing, and its questions. Assumes nothing.
use mathlib.Core.Path.{◌≡◌, refl, sym, ap, ◌∙◌, subst}
use mathlib.Core.Logic.{◌≢◌}
use mathlib.Core.Bool.{Bool, true, false, ◌&&◌}
use mathlib.Core.List.{List}
use mathlib.Core.Option.{Option, some, none}
use Prim.Native.Nat.{ℕ, ◌≤◌}
use native.Mathlib.Omega.{arith}
use lib.ListN.{length}
use lib.Seq.{sets}
use lib.Dec.{leb}
use lib.IntN.{ℤ}
use borrow.Author.Tests.{leb-true}
use Rattle.std.specs.Prelude.{Result, Ok, Err, ok_or}
use Rattle.columns.specs.declared.refusal.Refusal.{Refusal}
use Rattle.columns.specs.declared.refusal.Refusal.TheVariants.{NoCrossing}
use Rattle.columns.specs.Refusals.{number}
use Rattle.columns.specs.Lists.{each, after}
use Rattle.columns.specs.Questions.{ask}
use Rattle.columns.proofs.Counting.{length-each}
use Rattle.columns.proofs.Columns.{sets_over, after-refused}
use Rattle.columns.proofs.Tests.{and_both}
use Rattle.columns.proofs.Refusals.{met, goes_on}
use Rattle.columns_answers.specs.Said.{said, Answered}
use Rattle.columns_answers.proofs.Said.{accepted-of, refusal-of, no_zero}
use Rattle.engine_columns.specs.Records.{Engine}
use Rattle.engine_columns.specs.Questions.{engine_long, engine_sound}
use Rattle.engine_columns.proofs.Refusals.{Long, long_of, Sound, sound_of}
use Rattle.engine_walks.specs.Graph.{Graph}
use Rattle.engine_walks.specs.Settling.{State}
use Rattle.engine_walks.specs.Answers.{table_weight, from_left, least_from_left, nearest_right, crossing}
use Rattle.query_questions.specs.Queries.{graph_in, weights_in}
use Rattle.query_questions.specs.Scratch.{ScratchColumns, scratch_fits, is_free, SearchAfter}
use Rattle.query_crossing_answer.specs.Crossing.{is_joined, weight_found, crossing_asked, FoundCrossing}
use Rattle.query_crossing_answer.specs.Least.{if_any}
use Rattle.query_search.proofs.Scratch.{ask-kept, scratch_free, scratch_kept}
use Rattle.query_crossings.specs.Found.{crossing_in, FoundIn}

-- ---- what a settled state says

pub found-ok : (found : Option ℕ) (column : List ℤ) (w : ℕ) (out₀ out : List ℤ) → ok_or (if_any found) NoCrossing ≡ Ok w → length column ≤ length out₀ → out ≡ sets out₀ 0 column
    → FoundIn found column (Ok w) out₀ out
found-ok none column w out₀ out e h q = absurd (let z : ◌≡◌ {A = ℕ} 0 1 = cc in omega arith)
found-ok (some x) column w out₀ out e h q = record { answers = subst (λ r. Answered (said 0 r) 0 x 0) e (accepted-of refl); weights_after = q ∙ sets_over out₀ column h }

pub found-err : (found : Option ℕ) (column : List ℤ) (r : Refusal) (out₀ : List ℤ) → ok_or (if_any found) NoCrossing ≡ Err r → FoundIn found column (Err r) out₀ out₀
found-err none column r out₀ e = record { answers = subst (λ r. Answered (said 0 r) 18 0 0) e (refusal-of NoCrossing refl); weights_after = refl }
found-err (some x) column r out₀ e = absurd (let z : ◌≡◌ {A = ℕ} 0 1 = cc in omega arith)

-- the state by the graph's name
pub found-left : (g : Graph) (w : ℕ → ℕ) (s : State) {answer : Result ℕ Refusal} {out₀ out : List ℤ} → s ≡ from_left g w
    → FoundIn (crossing_in s g.boundary g.vertices) (each g.vertices (table_weight s)) answer out₀ out → FoundIn (crossing g w) (least_from_left g w) answer out₀ out
unfolding crossing nearest_right least_from_left
found-left g w s {answer} {out₀} {out} e f = subst (λ t. FoundIn (crossing_in t g.boundary g.vertices) (each g.vertices (table_weight t)) answer out₀ out) e f

pub left-length : (g : Graph) (w : ℕ → ℕ) → length (least_from_left g w) ≡ g.vertices
unfolding least_from_left
left-length g w = length-each g.vertices (table_weight (from_left g w))

-- ---- the questions

passed : (e : Engine) (scratch : Bool) (weights next : ℕ) → crossing_asked e scratch weights 0 ≡ 0 → crossing_asked e scratch weights next ≡ next
passed e scratch weights next z = go (engine_long 0 e && (leb e.counts.vertices weights && scratch)) (engine_sound e) z
  where
    go : (p q : Bool) → ask p 6 (ask q 7 0) ≡ 0 → ask p 6 (ask q 7 next) ≡ next
    go true true z = refl
    go true false z = absurd (omega arith)
    go false q z = absurd (omega arith)

stopped : (e : Engine) (scratch : Bool) (weights next : ℕ) → crossing_asked e scratch weights 0 ≢ 0 → crossing_asked e scratch weights next ≡ crossing_asked e scratch weights 0
stopped e scratch weights next f = go (engine_long 0 e && (leb e.counts.vertices weights && scratch)) (engine_sound e) f
  where
    go : (p q : Bool) → ask p 6 (ask q 7 0) ≢ 0 → ask p 6 (ask q 7 next) ≡ ask p 6 (ask q 7 0)
    go true true f = absurd (f refl)
    go true false f = refl
    go false q f = refl

pub record CrossingAsked (e : Engine) (scratch : Bool) (weights : ℕ) : Type 0 where
  pub long : Long 0 e
  pub weights_long : e.counts.vertices ≤ weights
  pub scratch_is : scratch ≡ true
  pub sound : Sound e

pub crossing_of : (e : Engine) (scratch : Bool) (weights : ℕ) → crossing_asked e scratch weights 0 ≡ 0 → CrossingAsked e scratch weights
crossing_of e scratch weights z =
    let fits = leb e.counts.vertices weights && scratch in
    let q2 = ask (engine_sound e) 7 0 in
    let (p, q) = and_both (engine_long 0 e) fits (met (engine_long 0 e && fits) 5 q2 z) in
    let (w, s) = and_both (leb e.counts.vertices weights) scratch q in
    record {
      long = long_of 0 e p;
      weights_long = leb-true _ _ w;
      scratch_is = s;
      sound = sound_of e (met (engine_sound e) 6 0 (goes_on (engine_long 0 e && fits) 5 q2 z));
    }

-- ---- scratch

-- scratch is free after success and after 18
free_number : (c : Option ℕ) → is_free (ask (is_joined c) 18 0) ≡ true
free_number none = refl
free_number (some w) = refl

-- 6 and 7 leave it as it was
kept_number : (e : Engine) (scratch : Bool) (weights : ℕ) → crossing_asked e scratch weights 0 ≢ 0 → is_free (crossing_asked e scratch weights 0) ≡ false
kept_number e scratch weights f =
    ask-kept (engine_long 0 e && (leb e.counts.vertices weights && scratch)) 6 (ask (engine_sound e) 7 0) refl (λ g. ask-kept (engine_sound e) 7 0 refl (λ x. absurd (x refl)) g) f

-- ---- the whole call

module _ (e : Engine) (weights₀ : List ℤ) (scratch₀ : ScratchColumns) where
  abbrev asked : ℕ → ℕ
  asked next = crossing_asked e (scratch_fits e.counts scratch₀) (length weights₀) next

  pub crossing_found : {answer : Result ℕ Refusal} {weights : List ℤ} {scratch : ScratchColumns} → asked 0 ≡ 0
      → SearchAfter (graph_in e) (from_left (graph_in e) (weights_in e)) scratch₀ scratch
      → FoundIn (crossing (graph_in e) (weights_in e)) (least_from_left (graph_in e) (weights_in e)) answer weights₀ weights → FoundCrossing e answer weights₀ weights scratch₀ scratch
  crossing_found {answer} {weights} z after_search f =
      let g = graph_in e in
      let w = weights_in e in
      let next = sym (passed e (scratch_fits e.counts scratch₀) (length weights₀) (ask (is_joined (crossing g w)) 18 0) z) in
      record {
        answers = subst (λ q. Answered (said 0 answer) q (weight_found (crossing g w)) 0) next f.answers;
        weights_after = f.weights_after ∙ ap (λ q. after q (least_from_left g w) weights₀) next;
        scratch_after = scratch_free _ g (from_left g w) scratch₀ _ (ap is_free f.answers.number_is ∙ free_number (crossing g w)) after_search;
      }

  pub crossing_refused : (r : Refusal) → number r ≡ asked 0 → FoundCrossing e (Err r) weights₀ weights₀ scratch₀ scratch₀
  crossing_refused r d =
      let g = graph_in e in
      let w = weights_in e in
      let f : asked 0 ≢ 0 = λ z. no_zero r (d ∙ z) in
      let next = stopped e (scratch_fits e.counts scratch₀) (length weights₀) (ask (is_joined (crossing g w)) 18 0) f in
      record {
        answers = refusal-of r (d ∙ sym next);
        weights_after = sym (after-refused _ (least_from_left g w) weights₀ (λ z. f (sym next ∙ z)));
        scratch_after = scratch_kept _ g (from_left g w) scratch₀ (ap is_free d ∙ kept_number e (scratch_fits e.counts scratch₀) (length weights₀) f);
      }
