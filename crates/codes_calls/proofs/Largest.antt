-- The largest weight of a code's edges, from its two probabilities. Assumes nothing.
use Rattle.std.specs.Prelude.{Option, None, Some}
use mathlib.Core.Path.{◌≡◌, refl, sym, ap, ◌∙◌, subst}
use mathlib.Core.Logic.{inl, inr}
use mathlib.Core.Bool.{Bool, true, false, cond}
use mathlib.Core.List.{List, [], ◌∷◌, map}
use Prim.Native.Nat.{ℕ, zero, suc, ◌≤◌, ◌<◌}
use native.Mathlib.Decide.{ℕ_discrete}
use native.Mathlib.Omega.{arith}
use lib.Ieee.{Float}
use borrow.Author.Tests.{eq-eqb, ne_eqb}
use Rattle.columns.specs.Places.{zero_float}
use Rattle.codes_layers.specs.Codes.{edges_of}
use Rattle.codes_layers.proofs.Accepted.{Accepted}
use Rattle.weights_recipe.specs.Logarithm.{edge_weight}
use Rattle.weights_diagonal.specs.Diagonal.{replaced}
use Rattle.weights_calls.specs.Calls.{larger, largest, largest_weight, edge_weights}
use Rattle.codes_calls.specs.Probabilities.{probabilities}
use Rattle.codes_weights.specs.Steps.{diagonal_p, largest_of}
use Rattle.codes_calls.specs.WeightedSteps.{DiagonalKind}
use Rattle.codes_calls.proofs.TwoWeights.{weight_of, first-v, all_first, some-either}
use Rattle.codes_calls.proofs.Diagonals.{diagonal_edge, some_edge, none-diagonal, first_plain, some-diagonal}

-- an edge that is not diagonal has p
plain : (diagonal : Option Float) (p : Float) → replaced diagonal p false ≡ p
plain None p = refl
plain (Some x) p = refl

-- the p of an edge by whether it is diagonal
pub by_test : (diagonal : Option Float) (p : Float) (b : Bool) → replaced diagonal p b ≡ cond b (diagonal_p p diagonal) p
by_test diagonal p true = refl
by_test diagonal p false = plain diagonal p

weights_are : {A : Type 0} (test : A → Bool) (p : Float) (diagonal : Option Float) (xs : List A)
    → edge_weights (map (λ x. replaced diagonal p (test x)) xs) ≡ map (weight_of (edge_weight p) (edge_weight (diagonal_p p diagonal)) test) xs
weights_are test p diagonal [] = refl
weights_are test p diagonal (x ∷ xs) = λ k. (ap edge_weight (by_test diagonal p (test x)) ∙ go (test x)) k ∷ weights_are test p diagonal xs k
  where
    go : (b : Bool) → edge_weight (cond b (diagonal_p p diagonal) p) ≡ cond b (edge_weight (diagonal_p p diagonal)) (edge_weight p)
    go true = refl
    go false = refl

-- without a diagonal probability every edge has p
all_p : {A : Type 0} (test : A → Bool) (p : Float) (xs : List A) → map (weight_of (edge_weight p) (edge_weight p) test) xs ≡ map (weight_of (edge_weight p) (edge_weight p) (λ x. false)) xs
all_p test p [] = refl
all_p test p (x ∷ xs) = λ k. go (test x) k ∷ all_p test p xs k
  where
    go : (b : Bool) → cond b (edge_weight p) (edge_weight p) ≡ edge_weight p
    go true = refl
    go false = refl

module _ (kind d rounds : ℕ) (p : Float) (diagonal : Option Float) (ok : Accepted kind d rounds) where
  abbrev v : Float
  v = edge_weight p

  abbrev w : Float
  w = edge_weight (diagonal_p p diagonal)

  weights-of : largest_weight (probabilities kind d rounds p diagonal) ≡ largest zero_float (map (weight_of v w (diagonal_edge kind d rounds)) (edges_of kind d rounds))
  unfolding probabilities
  weights-of = ap (largest zero_float) (weights_are (diagonal_edge kind d rounds) p diagonal (edges_of kind d rounds))

  no-rounds : rounds ≡ 0 → largest_of rounds p diagonal ≡ larger zero_float v
  unfolding largest_of
  no-rounds z = simp (eq-eqb rounds 0 z)

  some-rounds : (rounds ≡ 0 → ⊥) → largest_of rounds p diagonal ≡ larger (larger zero_float v) w
  unfolding largest_of
  some-rounds f = simp (ne_eqb rounds 0 f)

  absent : diagonal ≡ None → largest_weight (probabilities kind d rounds p diagonal) ≡ largest_of rounds p diagonal
  absent e =
      let same : w ≡ v = ap (λ (x : Option Float). edge_weight (diagonal_p p x)) e in
      let all : largest_weight (probabilities kind d rounds p diagonal) ≡ larger zero_float v =
      weights-of ∙ ap (λ (x : Float). largest zero_float (map (weight_of v x (diagonal_edge kind d rounds)) (edges_of kind d rounds))) same
      ∙ ap (largest zero_float) (all_p (diagonal_edge kind d rounds) p (edges_of kind d rounds))
      ∙ all_first v v (λ x. false) (edges_of kind d rounds) (0, 0) (some_edge kind d rounds ok) (λ k h. refl) in
      elim (ℕ_discrete rounds 0) [
        | yes z ↦ all ∙ sym (no-rounds z)
        | no f ↦ all ∙ sym (first-v v v) ∙ ap (larger (larger zero_float v)) (sym same) ∙ sym (some-rounds f)
      ]

circuit : (d rounds : ℕ) (p : Float) (diagonal : Option Float) (ok : Accepted 4 d rounds) → largest_weight (probabilities 4 d rounds p diagonal) ≡ largest_of rounds p diagonal
circuit d rounds p diagonal ok = elim (ℕ_discrete rounds 0) [
  | yes z ↦ weights-of 4 d rounds p diagonal ok
      ∙ all_first _ _ (diagonal_edge 4 d rounds) (edges_of 4 d rounds) (0, 0) (first_plain d rounds ok).1 (none-diagonal d rounds ok z) ∙ sym (no-rounds 4 d rounds p diagonal ok z)
  | no f ↦
      let s = some-diagonal d rounds ok (omega arith) in
      weights-of 4 d rounds p diagonal ok
      ∙ some-either _ _ (diagonal_edge 4 d rounds) (edges_of 4 d rounds) (0, 0) (first_plain d rounds ok).1 (first_plain d rounds ok).0 s.0 s.1.0 s.1.1 ∙ sym (some-rounds 4 d rounds p diagonal ok f)
]

pub largest_is : (kind d rounds : ℕ) (p : Float) (diagonal : Option Float) (ok : Accepted kind d rounds) → DiagonalKind kind diagonal
    → largest_weight (probabilities kind d rounds p diagonal) ≡ largest_of rounds p diagonal
largest_is kind d rounds p diagonal ok (inr e) = absent kind d rounds p diagonal ok e
largest_is kind d rounds p diagonal ok (inl e) =
    subst (λ (k : ℕ). largest_weight (probabilities k d rounds p diagonal) ≡ largest_of rounds p diagonal) (sym e) (circuit d rounds p diagonal (subst (λ (k : ℕ). Accepted k d rounds) e ok))
