-- A path query's answer is 17 or the path of the definition, and that joins its ends with least weight. Assumes nothing.
use mathlib.Core.Path.{◌≡◌, refl, sym, ap, ◌∙◌, subst}
use mathlib.Core.Bool.{cond}
use mathlib.Core.List.{List}
use mathlib.Core.Option.{Option, some, none}
use Prim.Native.Nat.{ℕ, zero, suc}
use native.Mathlib.Omega.{arith}
use lib.ListN.{length, take}
use lib.Dec.{eqb}
use Rattle.columns.proofs.Columns.{take-over}
use Rattle.columns_answers.proofs.Said.{values_of, question-of}
use Rattle.engine_columns.specs.Records.{Engine}
use Rattle.engine_walks.specs.Graph.{Graph, Joined, Walk}
use Rattle.engine_walks.specs.Answers.{FoundPath, path}
use Rattle.engine_walks.specs.Claims.{Route, arrived, onto, IsPath, PathAnswer}
use Rattle.engine_walks.proofs.TableAndPath.{path_is_least}
use Rattle.query_questions.specs.Queries.{graph_in, weights_in}
use Rattle.query_questions.specs.Scratch.{ScratchColumns, scratch_fits}
use Rattle.std.specs.Prelude.{Result}
use Rattle.columns.specs.declared.refusal.Refusal.{Refusal}
use Rattle.columns.specs.Refusals.{question_of}
use Rattle.query_paths.specs.declared.PathCounts.{PathCounts}
use Rattle.query_paths.specs.GetPath.{length_of, length_and_total, vertices_after, steps_after, GotPath}
use Rattle.query_paths.specs.GetPath as P
use Rattle.query_paths.proofs.PathAsked.{before-17}
use Rattle.claims.specs.QueriesCalled.{PathColumns, path_returned}
use Rattle.claims.specs.Met.{PathMet}
use Rattle.claims.specs.Queries.{PathSays, GetPathIsLeast}
use Rattle.claims.proofs.Questions.{pathNumber, path-met, path-number, columns_in_range}

-- a route has as many steps as vertices
route_same : {g : Graph} {w : ℕ → ℕ} {x y : ℕ} {vs cs : List ℕ} → Route g w x vs cs y → length cs ≡ length vs
route_same arrived = refl
route_same (onto e h j c r) = ap suc (route_same r)

-- a path joins its ends
path_joins : {g : Graph} {w : ℕ → ℕ} {a b : ℕ} {p : FoundPath} → IsPath g w a b p → Joined g a b
path_joins {g} {w} {a} {b} i = let (x, s, e, k, q) = i.least.some_walk in (s, subst (λ y. Walk g y s b) e k)

module _ (e : Engine) (a b : ℕ) (r : Result PathCounts Refusal) (columns₀ columns : PathColumns) (scratch₀ scratch : ScratchColumns)
    (step : GotPath e a b r columns₀.vertices columns.vertices columns₀.steps columns.steps scratch₀ scratch) where
  abbrev number : ℕ
  number = pathNumber e a b columns₀ scratch₀

  abbrev g : Graph
  g = graph_in e

  abbrev w : ℕ → ℕ
  w = weights_in e

  met : number ≡ 0 → PathMet e a b columns₀ scratch₀
  met = path-met e a b columns₀ scratch₀

  unmet : {n : ℕ} → number ≡ suc n → PathMet e a b columns₀ scratch₀ → ⊥
  unmet d m = omega (arith, d, path-number e a b columns₀ scratch₀ m)

  replies : (n : ℕ) (o : Option FoundPath) → number ≡ n → path g w a b ≡ o → question_of r ≡ P.path_refusal n o
  replies n o d p = question-of r step.answers ∙ (λ i. P.path_refusal (d i) (p i))

  by-case : (n : ℕ) (o : Option FoundPath) → number ≡ n → path g w a b ≡ o → (n ≡ 0 → PathAnswer g w a b o) → PathSays e a b r columns₀ columns scratch₀
  by-case (suc n) o d p h =
      let q : question_of r ≡ suc n = replies (suc n) o d p in
      record {
        not_reached = ((λ z. absurd (before-17 e (scratch_fits e.counts scratch₀) a b (length columns₀.vertices) (length columns₀.steps) (d ∙ sym q ∙ z))), λ z. absurd (unmet d z.0));
        reached = ((λ z. absurd (omega (arith, z, q))), λ z. absurd (unmet d z.0));
        least = λ z. absurd (omega (arith, z, q));
      }
  by-case zero none d p h =
      let q : question_of r ≡ 17 = replies 0 none d p in
      record {
        not_reached = ((λ z. (met d, h refl)), λ z. q);
        reached = ((λ z. absurd (omega (arith, z, q))), λ z. absurd (h refl z.1));
        least = λ z. absurd (omega (arith, z, q));
      }
  by-case zero (some f) d p h =
      let q : question_of r ≡ 0 = replies 0 (some f) d p in
      let x = values_of step.answers (λ i. P.path_refusal (d i) (p i)) ∙ ap length_and_total p in
      let i : IsPath g w a b f = h refl in
      let ev : take (length_of r) columns.vertices ≡ f.vertices =
      (λ j. take (x j).length ((step.vertices_after_holds ∙ (λ k. cond (eqb (d k) 0) (vertices_after (p k) columns₀.vertices) columns₀.vertices)) j))
      ∙ take-over f.vertices columns₀.vertices (length f.vertices) refl in
      let es : take (length_of r) columns.steps ≡ f.steps =
      (λ j. take (x j).length ((step.steps_after_holds ∙ (λ k. cond (eqb (d k) 0) (steps_after (p k) columns₀.steps) columns₀.steps)) j))
      ∙ take-over f.steps columns₀.steps (length f.vertices) (route_same i.route) in
      record {
        not_reached = ((λ z. absurd (omega (arith, z, q))), λ z. absurd (z.1 (path_joins i)));
        reached = ((λ z. (met d, path_joins i)), λ z. q);
        least = λ z. subst (λ (k : FoundPath). IsPath g w a b k) (sym (λ j. record { vertices = ev j; steps = es j; total = (x j).total })) i;
      }

  path-says : PathSays e a b r columns₀ columns scratch₀
  path-says = by-case number (path g w a b) refl refl
      (λ z. let m = met z in path_is_least g w a b (columns_in_range e m.six_and_seven.graph_long m.six_and_seven.graph_sound_holds).0 m.a_within)

pub get_path_least : GetPathIsLeast
get_path_least e a b r columns₀ columns scratch₀ scratch (path_returned κs x q s h) = path-says e a b r columns₀ columns scratch₀ scratch h
