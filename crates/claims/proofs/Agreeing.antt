-- Columns that agree with the tally: the same graph, the same weights, the same answer of a crossing. Assumes nothing.
use mathlib.Core.Path.{◌≡◌, refl, sym, ap, ◌∙◌, subst}
use mathlib.Core.Bool.{Bool, true, false, ◌&&◌, cond}
use mathlib.Core.List.{List, [], ◌∷◌}
use mathlib.Core.Option.{Option, some, none}
use Prim.Native.Nat.{ℕ, ◌<◌, ◌≤◌}
use native.Mathlib.Omega.{arith}
use lib.ListN.{length, get_or, take}
use lib.Seq.{get_or-take, length-take-le}
use lib.Dec.{leb}
use lib.IntN.{ℤ, negsuc}
use Rattle.columns.specs.Lists.{over, after}
use Rattle.columns.specs.Questions.{ask}
use Rattle.columns.proofs.Columns.{over-in, after-accepted}
use Rattle.engine_columns.specs.declared.EngineCounts.{EngineCounts}
use Rattle.engine_columns.specs.Records.{Engine}
use Rattle.engine_tally.specs.Tally.{Tally, Fed, lengths_of, tallied, is_accepted, tally_step, tally_after}
use Rattle.engine_columns.specs.Calls.{Call, load_erasures, load_weights, reset}
use Rattle.engine_tally.proofs.Agreement.{Agrees, long_same}
use Rattle.engine_columns.proofs.Refusals.{sound_from}
use Rattle.engine_walks.specs.Graph.{edges, GraphInRange}
use Rattle.engine_walks.specs.Answers.{crossing, least_from_left, weight_in}
use Rattle.std.specs.Prelude.{Result, Ok}
use Rattle.columns.specs.declared.refusal.Refusal.{Refusal}
use Rattle.query_questions.specs.Queries as Q
use Rattle.query_crossing_answer.specs.Crossing as C
use Rattle.query_crossing_answer.specs.Crossing.{is_joined, weight_found, reply_number}
use Rattle.query_crossing_answer.proofs.Cases.{crossed_case}
use Rattle.query_crossings.proofs.Crossings.{left-length}
use Rattle.query_search.proofs.Ranges.{in_range}
use Rattle.claims.specs.Listed.{OwnLengths, tally_graph, tally_weights, crossing_long, before18, tally_crossing_refusal}
use Rattle.columns_answers.specs.Said.{said, Answered}
use Rattle.query_questions.specs.Scratch.{scratch_long}

-- whether scratch is long enough, from its lengths
abbrev fits : Engine → OwnLengths → Bool
fits e o = scratch_long e.counts o.scratch

-- what a crossing answers and leaves in the weight column, from the lengths of its columns
pub record CrossingBy (e : Engine) (o : OwnLengths) (r : Result ℕ Refusal) (column₀ column : List ℤ) : Type 0 where
  pub same : length column₀ ≡ o.weights
  pub answers : Answered (said 0 r) (C.crossing_refusal e (fits e o) (length column₀)) (weight_found (crossing (Q.graph_in e) (Q.weights_in e))) 0
  pub weights_after : column ≡ after (C.crossing_refusal e (fits e o) (length column₀)) (least_from_left (Q.graph_in e) (Q.weights_in e)) column₀

-- a question that did not stop the call leads to the next
passed : (p : Bool) (next : ℕ) → ask p 6 0 ≡ 0 → ask p 6 next ≡ next
passed true next z = refl
passed false next z = absurd (omega arith)

module _ (t : Tally) (e : Engine) (a : Agrees t e) where
  pub graph_same : Q.graph_in e ≡ tally_graph t
  graph_same =
      (λ i. record {
        vertices = (a.counts_are i).vertices;
        ends_a = take (a.counts_are i).edges e.ends_a;
        ends_b = take (a.counts_are i).edges e.ends_b;
        boundary = take (a.counts_are i).vertices e.boundary;
      })
      ∙ (λ i. record { vertices = t.counts.vertices; ends_a = a.ends_a_are i; ends_b = a.ends_b_are i; boundary = a.boundary_are i })

  pub weights-same : Q.weights_in e ≡ tally_weights t
  weights-same = (λ i k. get_or (take (a.counts_are i).edges e.weights) k 0) ∙ (λ i k. get_or (a.weights_are i) k 0)

  pub range : GraphInRange (tally_graph t)
  range = subst GraphInRange graph_same (in_range e a.long a.sound)

  pub edges_are : edges (tally_graph t) ≡ t.counts.edges
  edges_are = sym (ap length a.ends_a_are) ∙ length-take-le t.counts.edges e.ends_a (subst (λ (c : EngineCounts). c.edges ≤ length e.ends_a) a.counts_are a.long.columns.ends_a)

  -- the weight in the column, for each edge
  pub weight-at : (k : ℕ) → k < t.counts.edges → tally_weights t k ≡ get_or e.weights k 0
  weight-at k h = sym (ap (λ w. get_or w k 0) a.weights_are) ∙ get_or-take t.counts.edges e.weights k 0 h

  number_same : (o : OwnLengths) → C.crossing_refusal e (fits e o) o.weights ≡ tally_crossing_refusal (lengths_of e) o t
  number_same o =
      (λ i. ask (long_same 0 e t.counts a.counts_are i && (leb (a.counts_are i).vertices o.weights && scratch_long (a.counts_are i) o.scratch)) 6
      (ask (sound_from e a.sound i) 7 (ask (is_joined (crossing (graph_same i) (weights-same i))) 18 0)))

  module _ (o : OwnLengths) (r : Result ℕ Refusal) (column₀ column : List ℤ) (step : CrossingBy e o r column₀ column) where
    abbrev number : ℕ
    number = C.crossing_refusal e (fits e o) (length column₀)

    number-is-tally's : number ≡ tally_crossing_refusal (lengths_of e) o t
    number-is-tally's = ap (C.crossing_refusal e (fits e o)) step.same ∙ number_same o

    abbrev found : Option ℕ
    found = crossing (tally_graph t) (tally_weights t)

    found-same : crossing (Q.graph_in e) (Q.weights_in e) ≡ found
    found-same = λ i. crossing (graph_same i) (weights-same i)

    pub crossing-number : reply_number r ≡ tally_crossing_refusal (lengths_of e) o t
    crossing-number = step.answers.number_is ∙ number-is-tally's

    -- what an accepted crossing reports
    pub accepted-of : reply_number r ≡ 0 → (W : ℕ) × (found ≡ some W) × (r ≡ Ok W) × (column ≡ over (least_from_left (tally_graph t) (tally_weights t)) column₀)
    accepted-of z = go found refl
      where
        zero_number : number ≡ 0
        zero_number = number-is-tally's ∙ sym crossing-number ∙ z

        refused : (p : Bool) → ask p 6 18 ≡ 0 → ⊥
        refused true h = omega arith
        refused false h = omega arith

        go : (c : Option ℕ) → found ≡ c → (W : ℕ) × (found ≡ some W) × (r ≡ Ok W) × (column ≡ over (least_from_left (tally_graph t) (tally_weights t)) column₀)
        go none q = absurd (refused (crossing_long (lengths_of e) o t.counts) (sym (ap (λ c. ask (crossing_long (lengths_of e) o t.counts) 6 (ask (is_joined c) 18 0)) q) ∙ sym number-is-tally's ∙ zero_number))
        go (some W) q = (
          W,
          q,
          crossed_case r step.answers zero_number ∙ ap (λ c. Ok (weight_found c)) (found-same ∙ q),
          step.weights_after ∙ (λ i. after number (least_from_left (graph_same i) (weights-same i)) column₀) ∙ after-accepted number (least_from_left (tally_graph t) (tally_weights t)) column₀ zero_number,
        )

    -- where no question before 18 refuses it, it is accepted if there is a crossing weight
    pub accepted-when : before18 (lengths_of e) o t ≡ 0 → (W : ℕ) → found ≡ some W → reply_number r ≡ 0
    accepted-when z W q = crossing-number ∙ passed (crossing_long (lengths_of e) o t.counts) (ask (is_joined found) 18 0) z ∙ ap (λ c. ask (is_joined c) 18 0) q

    pub column-at : (v : ℕ) → v < t.counts.vertices → column ≡ over (least_from_left (tally_graph t) (tally_weights t)) column₀ → weight_in column v ≡ weight_in (least_from_left (tally_graph t) (tally_weights t)) v
    column-at v h q = ap (λ c. weight_in c v) q ∙ over-in (least_from_left (tally_graph t) (tally_weights t)) column₀ (negsuc 0) v (omega (arith, left-length (tally_graph t) (tally_weights t), h))

-- ---- the tally keeps its graph

same_step : (f : Fed) (t : Tally) → (tally_graph (tally_step f t) ≡ tally_graph t) × ((tally_step f t).counts.edges ≡ t.counts.edges)
same_step f t = go (is_accepted f t) f.call
  where
    go : (b : Bool) (call : Call) → (tally_graph (cond b (tallied call t) t) ≡ tally_graph t) × ((cond b (tallied call t) t).counts.edges ≡ t.counts.edges)
    go true (load_erasures es) = (refl, refl)
    go true (load_weights es xs) = (refl, refl)
    go true reset = (refl, refl)
    go false call = (refl, refl)

pub graph_kept : (fs : List Fed) (t : Tally) → (tally_graph (tally_after fs t) ≡ tally_graph t) × ((tally_after fs t).counts.edges ≡ t.counts.edges)
graph_kept [] t = (refl, refl)
graph_kept (f ∷ fs) t =
    let (g, e) = graph_kept fs (tally_step f t) in
    let (g', e') = same_step f t in
    (g ∙ g', e ∙ e')
