-- Laws of the tests for p and pe. Assumes nothing.
use mathlib.Core.Path.{◌≡◌, refl}
use mathlib.Core.Bool.{Bool, true, false, ◌&&◌, ◌||◌}
use mathlib.Core.List.{List, [], ◌∷◌}
use lib.Ieee.{Float}
use Rattle.columns.specs.Questions.{all}
use Rattle.columns.proofs.Tests.{and_both, both_and}
use Rattle.weights_recipe.specs.Probabilities.{is_plus_zero, is_in_range, is_probability}

second : (a : Bool) {b : Bool} → b ≡ true → (a || b) ≡ true
second true e = refl
second false e = e

-- numbers in range are probabilities
pub in_range : (xs : List Float) → all is_in_range xs ≡ true → all is_probability xs ≡ true
unfolding all is_probability
in_range [] e = refl
in_range (x ∷ xs) e =
    let h = and_both (is_in_range x) (all is_in_range xs) e in
    both_and (second (is_plus_zero x) h.0) (in_range xs h.1)

-- two tests of the numbers so far, and two of the next
pub crossed : (a b x y : Bool) → ((a && b) && (x && y)) ≡ ((a && x) && (b && y))
crossed true true x y = refl
crossed true false true y = refl
crossed true false false y = refl
crossed false b x y = refl
