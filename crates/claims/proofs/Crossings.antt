-- A crossing's answer is 18 or the crossing weight of the graph and the weights lent, and that is the least of walks and of crossing sets. Assumes nothing.
use mathlib.Core.Path.{◌≡◌, refl, sym, ap, ◌∙◌, subst}
use mathlib.Core.Logic.{◌≢◌}
use mathlib.Core.Bool.{Bool, true, false}
use mathlib.Core.List.{List}
use mathlib.Core.Option.{Option, some, none}
use Prim.Native.Nat.{ℕ, ◌<◌}
use native.Mathlib.Omega.{arith}
use lib.ListN.{length}
use lib.IntN.{ℤ, negsuc}
use Rattle.columns.specs.Lists.{over, after}
use Rattle.columns.specs.Questions.{ask}
use Rattle.columns.proofs.Columns.{over-in}
use Rattle.columns_answers.proofs.Said.{values_of}
use Rattle.engine_columns.specs.Records.{Engine}
use Rattle.engine_columns.specs.Questions.{engine_sound}
use Rattle.engine_walks.specs.Graph.{Graph, LeftJoinsRight}
use Rattle.engine_walks.specs.Answers.{weight_in, crossing, least_from_left}
use Rattle.engine_walks.specs.Claims.{IsCrossing, CrossingAnswer, LeftWeight}
use Rattle.engine_walks.proofs.LeastCrossing.{crossing_is_least}
use Rattle.query_questions.specs.Queries.{graph_in, weights_in}
use Rattle.query_questions.specs.Scratch.{ScratchColumns, scratch_fits}
use Rattle.std.specs.Prelude.{Result}
use Rattle.columns.specs.declared.refusal.Refusal.{Refusal}
use Rattle.query_crossing_answer.specs.Crossing.{reply_number, is_joined, weight_found, crossing_refusal, FoundCrossing}
use Rattle.claims.specs.QueriesCalled.{crossing_returned}
use Rattle.claims.specs.Met.{CrossingMet}
use Rattle.claims.specs.Queries.{CrossingSays, CrossingCallIsLeast}
use Rattle.claims.proofs.Questions.{longAll, crossing-met, crossing-long, columns_in_range}

module _ (e : Engine) (r : Result ℕ Refusal) (weights₀ weights : List ℤ) (scratch₀ scratch : ScratchColumns) (step : FoundCrossing e r weights₀ weights scratch₀ scratch) where
  abbrev g : Graph
  g = graph_in e

  abbrev w : ℕ → ℕ
  w = weights_in e

  abbrev Says : Type 0
  Says = CrossingSays e r weights₀ weights scratch₀

  -- refused by 6 or 7
  refused : (n : ℕ) → reply_number r ≡ n → n ≢ 0 → n ≢ 18 → (CrossingMet e weights₀ scratch₀ → ⊥) → Says
  refused n q f h unmet = record {
    not_joined = ((λ z. absurd (h (sym q ∙ z))), λ m. absurd (unmet m.0));
    joined = ((λ z. absurd (f (sym q ∙ z))), λ m. absurd (unmet m.0));
    least = λ z. absurd (f (sym q ∙ z));
    column = λ z. absurd (f (sym q ∙ z));
  }

  module _ (p : longAll e weights₀ scratch₀ ≡ true) (q : engine_sound e ≡ true) where
    met : CrossingMet e weights₀ scratch₀
    met = crossing-met e weights₀ scratch₀ p q

    facts : CrossingAnswer g w (crossing g w) × (length (least_from_left g w) ≡ g.vertices) × ((v : ℕ) → v < g.vertices → LeftWeight g w v (weight_in (least_from_left g w) v))
    facts = crossing_is_least g w (columns_in_range e met.graph_long q).0

    passed : (o : Option ℕ) → crossing g w ≡ o → CrossingAnswer g w o → Says
    passed none c f =
        let n : reply_number r ≡ 18 = step.answers.number_is ∙ (λ i. ask (p i) 6 (ask (q i) 7 (ask (is_joined (c i)) 18 0))) in
        let no : LeftJoinsRight g → ⊥ = λ (x, y, l, k, j). f x y l k j in
        record {
          not_joined = ((λ z. (met, no)), λ z. n);
          joined = ((λ z. absurd (omega (arith, z, n))), λ z. absurd (no z.1));
          least = λ z. absurd (omega (arith, z, n));
          column = λ z. absurd (omega (arith, z, n));
        }
    passed (some W) c f =
        let met_all : crossing_refusal e (scratch_fits e.counts scratch₀) (length weights₀) ≡ 0 = λ i. ask (p i) 6 (ask (q i) 7 (ask (is_joined (c i)) 18 0)) in
        let n : reply_number r ≡ 0 = step.answers.number_is ∙ met_all in
        let there : LeftJoinsRight g = (let (x, y, s, l, k, t, z) = f.walk.a_walk in (x, y, l, k, (s, t))) in
        let left : weights ≡ over (least_from_left g w) weights₀ =
        step.weights_after ∙ (λ i. after (ask (p i) 6 (ask (q i) 7 (ask (is_joined (c i)) 18 0))) (least_from_left g w) weights₀) in
        record {
          not_joined = ((λ z. absurd (omega (arith, z, n))), λ z. absurd (z.1 there));
          joined = ((λ z. (met, there)), λ z. n);
          least = λ z. subst (IsCrossing g w) (sym (values_of step.answers met_all ∙ ap weight_found c)) f;
          column = λ z v h. subst (LeftWeight g w v)
              (sym (ap (λ (l : List ℤ). weight_in l v) left ∙ over-in (least_from_left g w) weights₀ (negsuc 0) v (omega (arith, facts.1, h)))) (facts.2 v h);
        }

  by-case : (p q : Bool) → longAll e weights₀ scratch₀ ≡ p → engine_sound e ≡ q → Says
  by-case false q h k =
      refused 6 (step.answers.number_is ∙ (λ i. ask (h i) 6 (ask (engine_sound e) 7 (ask (is_joined (crossing g w)) 18 0)))) (λ z. omega arith) (λ z. omega arith)
      (λ m. let c = crossing-long e weights₀ scratch₀ m in let z : ◌≡◌ {A = ℕ} 0 1 = cc in omega arith)
  by-case true false h k =
      refused 7 (step.answers.number_is ∙ (λ i. ask (h i) 6 (ask (k i) 7 (ask (is_joined (crossing g w)) 18 0)))) (λ z. omega arith) (λ z. omega arith)
      (λ m. let c = m.graph_sound_holds in let z : ◌≡◌ {A = ℕ} 0 1 = cc in omega arith)
  by-case true true h k = passed h k (crossing g w) refl (facts h k).0

  crossing_says : Says
  crossing_says = by-case (longAll e weights₀ scratch₀) (engine_sound e) refl refl

pub crossing_call_least : CrossingCallIsLeast
crossing_call_least e r weights₀ weights scratch₀ scratch (crossing_returned κs a q s h) = crossing_says e r weights₀ weights scratch₀ scratch h
