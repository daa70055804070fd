-- The calls: which question refuses (0 for none), the answer, and the lent columns afterwards.
use Rattle.std.specs.Prelude.{ℕ, ◌≡◌, Bool, false, ◌&&◌, ◌||◌, cond, List, [], ◌∷◌, map, leb, length, take, Float, Result}
use Rattle.std.specs.Float.Ieee.{lt}
use Rattle.columns.specs.Limits.{edge_limit, half_weight_limit}
use Rattle.columns.specs.Lists.{after}
use Rattle.columns.specs.Questions.{ask, all}
use Rattle.columns.specs.Places.{zero_float}
use Rattle.columns.specs.declared.refusal.Refusal.{Refusal}
use Rattle.columns_answers.specs.Said.{said, Answered}
use Rattle.weights_recipe.specs.Probabilities.{is_probability}
use Rattle.weights_recipe.specs.Logarithm.{edge_weight}
use Rattle.weights_recipe.specs.Rounding.{half_weight}

-- ---- weight_of_p

-- Questions at the door, 9, of one p: the number that `weight_of_p` yields, 0 for none.
abbrev pub weight_refusal : Float → ℕ
weight_refusal p = ask (is_probability p) 9 0

-- ---- compute_weights

-- Weights, on half weights, sentence 1: the larger of two weights as the Rust takes it: w only where it is above m.
abbrev pub larger : Float → Float → Float
larger m w = cond (lt m w) w m

-- Weights, on half weights, sentence 1: the largest of m and the weights, in order.
unfoldable pub largest : Float → List Float → Float
largest m [] = m
largest m (w ∷ ws) = largest (larger m w) ws

-- Weights, on the logarithm: the weight w of each edge.
abbrev pub edge_weights : List Float → List Float
edge_weights ps = map edge_weight ps

-- Weights, on half weights, sentence 1: the largest w, from 0 on.
abbrev pub largest_weight : List Float → Float
largest_weight ps = largest zero_float (edge_weights ps)

-- Questions at the door, 10: some edge weight w above 0.
unfoldable pub some_above : List Float → Bool
some_above [] = false
some_above (w ∷ ws) = lt zero_float w || some_above ws

-- Questions at the door, 8: M 1 to 250,000.
abbrev pub is_largest_half_weight : ℕ → Bool
is_largest_half_weight max = leb 1 max && leb max half_weight_limit

-- Weights, on half weights: the half weight of each edge.
abbrev pub half_weights : ℕ → List Float → List ℕ
half_weights max ps = map (λ p. half_weight max (edge_weight p) (largest_weight ps)) ps

-- Questions at the door, 6 to 10, in order, of `compute_weights`; 9 and 10 are asked of the first places, as many as there are edges.
abbrev pub compute_refusal : ℕ → List Float → List ℕ → ℕ → ℕ
compute_refusal edges p column max =
    ask (leb edges (length p) && leb edges (length column)) 6
    (ask (leb edges edge_limit) 7
    (ask (is_largest_half_weight max) 8
    (ask (all is_probability (take edges p)) 9
    (ask (some_above (edge_weights (take edges p))) 10 0))))

-- Weights, `compute_weights`: its answer, and what stands in the half-weight column before it and afterwards.
pub record ComputedWeights (edges : ℕ) (p : List Float) (column₀ : List ℕ) (max : ℕ) (column : List ℕ) (answer : Result (Unit {0}) Refusal) : Type 0 where
  pub answers : Answered (said tt answer) (compute_refusal edges p column₀ max) tt tt
  pub column_after : column ≡ after (compute_refusal edges p column₀ max) (half_weights max (take edges p)) column₀
