-- What the functions of this crate promise. No contract of a customer's call cites it.
use Rattle.std.specs.Prelude.{ℕ, ◌≤◌, ◌≡◌, Bool, true, cond, List, eqb, length, get_or, Float, Option}
use Rattle.std.proofs.lemmas.List.Edits.{sets}
use Rattle.columns.specs.Lists.{each}
use Rattle.columns.specs.Places.{zero_float, position_at}
use Rattle.columns.specs.Questions.{ask}
use Rattle.weights_recipe.specs.Logarithm.{edge_weight}
use Rattle.weights_recipe.specs.Rounding.{half_weight}
use Rattle.weights_diagonal.specs.Diagonal.{is_diagonal, replaced}
use Rattle.weights_calls.specs.Calls.{larger}
use Rattle.codes_weights.specs.declared.Weighed.{Weighed}

-- Weights, on the diagonal probability, sentence 1: the p of a diagonal edge.
abbrev pub diagonal_p : Float → Option Float → Float
diagonal_p p diagonal = replaced diagonal p true

-- Weights, on half weights, sentence 1: the largest w, where an edge that is not diagonal is there, and a diagonal one from one round on.
unfoldable pub largest_of : (rounds : ℕ) (p : Float) (diagonal : Option Float) → Float
largest_of rounds p diagonal =
    cond (eqb rounds 0) (larger zero_float (edge_weight p)) (larger (larger zero_float (edge_weight p)) (edge_weight (diagonal_p p diagonal)))

-- Weights, on half weights: what an edge with this p gets.
abbrev pub weighed_of : (p : Float) (max : ℕ) (largest : Float) → Weighed
weighed_of p max largest = record { p = p; half = half_weight max (edge_weight p) largest }

-- Questions at the door, 2 to 6 and 8 to 10: the number of 2 to 6, or where it is 0 that of 8 to 10.
unfoldable pub weights_refusal : (q : ℕ) (eight nine ten : Bool) → ℕ
weights_refusal q eight nine ten = cond (eqb q 0) (ask eight 8 (ask nine 9 (ask ten 10 0))) q

-- Weights, on the diagonal probability, sentence 1: whether edge k of two columns of ends is diagonal, by three columns of positions.
unfoldable pub diagonal_at : (a b : List ℕ) (i j t : List Float) (k : ℕ) → Bool
diagonal_at a b i j t k = is_diagonal (position_at i j t (get_or a k 0)) (position_at i j t (get_or b k 0))

-- Questions at the door, 6: there are n places in the columns of ends, p and half weights.
pub record WeighRoom (n : ℕ) (a b : List ℕ) (p : List Float) (h : List ℕ) : Type 0 where
  pub room_a : n ≤ length a
  pub room_b : n ≤ length b
  pub room_p : n ≤ length p
  pub room_h : n ≤ length h

-- Weights, on the diagonal probability and on half weights: the columns of p and half weights hold what the first n edges get.
pub record EdgesWeighed (n : ℕ) (diagonal : ℕ → Bool) (straight other : Weighed) (p₀ : List Float) (h₀ : List ℕ) (p : List Float) (h : List ℕ) : Type 0 where
  pub in_p : p ≡ sets p₀ 0 (each n (λ k. cond (diagonal k) other.p straight.p))
  pub in_h : h ≡ sets h₀ 0 (each n (λ k. cond (diagonal k) other.half straight.half))
