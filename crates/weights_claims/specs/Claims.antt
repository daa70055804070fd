-- What document 01's section "Weights" says of calls.
use Rattle.columns_answers.specs.Said.{said}
use Rattle.columns.specs.declared.refusal.Refusal.{Refusal}
use Rattle.std.specs.Prelude.{ℕ, ◌^◌, ◌≤◌, ◌<◌, ◌≡◌, true, false, ◌&&◌, List, length, get_or, take, leb, Float, Result, Ok}
use Rattle.std.specs.Float.{nan, inf}
use Rattle.std.specs.Float.Ieee.{lt}
use Rattle.std.specs.Float.Ieee.Exact.{HasValue}
use Rattle.columns.specs.Limits.{edge_limit}
use Rattle.columns.specs.Places.{zero_float, one, half}
use Rattle.columns.specs.Questions.{ask, all}
use Rattle.weights_recipe.specs.Constants.{two, three, thirty_five, least_p}
use Rattle.weights_recipe.specs.Probabilities.{is_plus_zero, is_probability}
use Rattle.weights_recipe.specs.Logarithm.{edge_weight, ByRecipe}
use Rattle.weights_recipe.specs.Rounding.{scaled, reaches, IsGreatest}
use Rattle.weights_calls.specs.Calls.{is_largest_half_weight}
use Rattle.weights_claims.specs.Called.{WeightReturned, WeightsReturned}

-- ---- the logarithm

-- Weights, on the logarithm, sentences 2 and 3: p = 0 gives +infinity. For every other p that question 9 accepts, the weight that `weight_of_p` answers, and the one by
-- which `compute_weights` goes, is the recipe's: halved until below 2, however often that is; it is at most 40 times.
pub record HalvedUntilBelow2 : Type 0 where
  pub zero_weighs : (r : Result Float Refusal) → WeightReturned zero_float r → r ≡ Ok (inf false)
  pub answered : (p : Float) (r : Result Float Refusal) → WeightReturned p r → is_probability p ≡ true → is_plus_zero p ≡ false → (w : Float) × ((r ≡ Ok w) × ByRecipe p w)
  pub weighed : (p : Float) → is_probability p ≡ true → is_plus_zero p ≡ false → ByRecipe p (edge_weight p)

-- ---- half weights

-- Weights, on half weights, sentence 1: l is the largest w: one of these probabilities has it, and none has a w above it.
pub record IsLargest (l : Float) (ps : List Float) : Type 0 where
  pub edge : ℕ
  pub within : edge < length ps
  pub has_it : edge_weight (get_or ps edge zero_float) ≡ l
  pub none_above : (k : ℕ) → k < length ps → lt l (edge_weight (get_or ps k zero_float)) ≡ false

-- Weights, on half weights, sentence 1: n is the half weight of an edge of weight w, where l is the largest w: g is the greatest of 0 to M with g = 0 or v ≥ g - 0.5; n is
-- g, but 1 where g is 0. So n is from 1 to M.
pub record IsHalfWeight (max : ℕ) (w l : Float) (n : ℕ) : Type 0 where
  pub g : ℕ
  pub greatest_is : IsGreatest (scaled max w l) max g
  pub zero_becomes_one : g ≡ 0 → n ≡ 1
  pub else_greatest : (g ≡ 0 → ⊥) → n ≡ g
  pub least : 1 ≤ n
  pub most : n ≤ max

-- Weights, on half weights, sentences 1 and 2: the half weights that every accepted `compute_weights` leaves; a NaN reaches no n.
pub record HalfWeightsAreGreatest : Type 0 where
  pub half-weights : (edges : ℕ) (p : List Float) (column₀ : List ℕ) (max : ℕ) (column : List ℕ) → WeightsReturned edges p column₀ max (Ok tt) column
      → (l : Float) × (IsLargest l (take edges p) × ((k : ℕ) → k < edges → IsHalfWeight max (edge_weight (get_or p k zero_float)) l (get_or column k 0)))
  pub nan_reaches_none : (n : ℕ) → reaches nan n ≡ false

-- Weights, on half weights, sentence 3: one p of 0 makes every half weight 1.
-- Questions at the door, 6 to 10: a call with such a p is never refused by 10.
pub record OneZero : Type 0 where
  pub half-weights : (edges : ℕ) (p : List Float) (column₀ : List ℕ) (max : ℕ) (column : List ℕ) → WeightsReturned edges p column₀ max (Ok tt) column
      → (i : ℕ) → i < edges → get_or p i zero_float ≡ zero_float → (k : ℕ) → k < edges → get_or column k 0 ≡ 1
  pub number : (edges : ℕ) (p : List Float) (column₀ : List ℕ) (max : ℕ) (r : Result (Unit {0}) Refusal) (column : List ℕ) → WeightsReturned edges p column₀ max r column
      → (i : ℕ) → i < edges → get_or p i zero_float ≡ zero_float
      → (said tt r).number
      ≡ ask (leb edges (length p) && leb edges (length column₀)) 6 (ask (leb edges edge_limit) 7 (ask (is_largest_half_weight max) 8 (ask (all is_probability (take edges p)) 9 0)))

-- Checked examples, on every p 0.5; questions at the door, 6 to 10: 10 where 6, 7 and 8 are met, else the first of these that is not. No edge at all counts as every p, and a column of p that is too short as far as it goes.
abbrev pub AllHalf : Type 0
AllHalf =
    (edges : ℕ) (p : List Float) (column₀ : List ℕ) (max : ℕ) (r : Result (Unit {0}) Refusal) (column : List ℕ) → WeightsReturned edges p column₀ max r column
    → ((k : ℕ) → k < edges → k < length p → get_or p k zero_float ≡ half)
    → (said tt r).number ≡ ask (leb edges (length p) && leb edges (length column₀)) 6 (ask (leb edges edge_limit) 7 (ask (is_largest_half_weight max) 8 10))

-- Weights, and questions at the door, 9: the numbers that the definitions name by their bits are those of the text: 1, 0.5, 2, 3, 35 and 2 to the power -40.
pub record ConstantsAre : Type 0 where
  pub one_is : HasValue one false 1 1
  pub half_is : HasValue half false 1 2
  pub two_is : HasValue two false 2 1
  pub three_is : HasValue three false 3 1
  pub thirty_five_is : HasValue thirty_five false 35 1
  pub least_is : HasValue least_p false 1 (2 ^ 40)
