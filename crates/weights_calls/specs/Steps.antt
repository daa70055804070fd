-- What the functions of this crate promise of the table that a pass keeps. No contract of a customer's call cites it.
use Rattle.std.specs.Prelude.{ℕ, ◌≡◌, List, map, length, Float}
use Rattle.weights_recipe.specs.Logarithm.{edge_weight}
use Rattle.weights_recipe.specs.Rounding.{half_weight}

-- Weights, `compute_weights`: how many places a table has.
abbrev pub places : ℕ
places = 256

-- Weights, `compute_weights`: what a closure answers for p is what the weight of p gives.
abbrev pub Computes : {A : Type 0} (post : Float → A → Type 0) → (Float → A) → Type 0
Computes {A} post of_weight = (p : Float) (r : A) → post p r → r ≡ of_weight (edge_weight p)

-- Weights, `compute_weights`: a table of probabilities: beside each stands what f gives for it.
pub record Known {A : Type 0} (f : Float → A) (ps : List Float) (values : List A) : Type 0 where
  pub room : length ps ≡ places
  pub right : values ≡ map f ps

-- Weights, on half weights: the half weight of an edge with probability p.
abbrev pub half_weight_of : (max : ℕ) (largest : Float) (p : Float) → ℕ
half_weight_of max largest p = half_weight max (edge_weight p) largest
