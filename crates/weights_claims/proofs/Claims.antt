-- The claims, from what the calls promise and from the theorems about the definitions. Assumes nothing.
use Rattle.columns.specs.declared.refusal.Refusal.{Refusal}
use Rattle.std.specs.Prelude.{Result, Ok, Err}
use mathlib.Core.Path.{◌≡◌, refl, sym, ap, ◌∙◌}
use mathlib.Core.Logic.{inl, inr}
use mathlib.Core.Bool.{Bool, true, false, ◌&&◌, ◌||◌, false≢true}
use mathlib.Core.List.{List, [], ◌∷◌}
use Prim.Native.Nat.{ℕ, zero, suc, ◌≤◌, ◌<◌}
use native.Mathlib.Omega.{arith}
use lib.ListN.{length, get_or, take, length-take, length-map, get_or-map}
use lib.Seq.{get_or-take}
use lib.Dec.{leb, eqb}
use lib.Ieee.{Float, lt, le, of_bits, to_bits}
use borrow.Author.Tests.{leb-true}
use Rattle.columns.specs.Limits.{edge_limit, half_weight_limit}
use Rattle.columns.specs.Places.{zero_float}
use Rattle.columns.specs.Questions.{ask, all}
use Rattle.columns.proofs.Columns.{get_d_any}
use Rattle.columns.proofs.Tests.{and_both}
use Rattle.columns_answers.proofs.Said.{values_of}
use Rattle.weights_recipe.specs.Probabilities.{is_probability}
use Rattle.weights_recipe.specs.Logarithm.{edge_weight}
use Rattle.weights_recipe.specs.Rounding.{greatest, scaled, at_least_one, half_weight}
use Rattle.weights_recipe.proofs.Floats.{in_range, one_is, half_is, two_is, three_is, thirty_five_is, least_is}
use Rattle.weights_recipe.proofs.Recipe.{zero_weight}
use Rattle.weights_recipe.proofs.Halvings.{by_recipe}
use Rattle.weights_recipe.proofs.Search.{greatest_is, nan_reaches}
use Rattle.weights_calls.specs.Calls.{edge_weights, largest_weight, some_above, is_largest_half_weight, ComputedWeights}
use Rattle.weights_calls.proofs.Largest.{is_largest, some_above_lem}
use Rattle.weights_calls.proofs.Theorems.{written, one_to_max, one_zero, all-half}
use Rattle.weights_claims.specs.Called.{WeightReturned, weight_returned, WeightsReturned, weights_returned}
use Rattle.weights_claims.specs.Claims.{HalvedUntilBelow2, IsLargest, IsHalfWeight, HalfWeightsAreGreatest, OneZero, AllHalf, ConstantsAre}

-- ---- the call's own promise

promise : {edges : ℕ} {p : List Float} {column₀ : List ℕ} {max : ℕ} {r : Result (Unit {0}) Refusal} {column : List ℕ} → WeightsReturned edges p column₀ max r column
    → ComputedWeights edges p column₀ max column r
promise (weights_returned κs a r s h) = h

-- ---- the logarithm

-- an accepted p is answered with its weight
weighs : {p : Float} {r : Result Float Refusal} → WeightReturned p r → is_probability p ≡ true → r ≡ Ok (edge_weight p)
weighs (weight_returned κs a (Ok w) s h) e = ap Ok (values_of h (ap (λ (b : Bool). ask b 9 0) e))
weighs (weight_returned κs a (Err n) s h) e = absurd (false≢true (h.accepted_is ∙ ap (λ (b : Bool). eqb (ask b 9 0) 0) e))

zero_accepted : is_probability zero_float ≡ true
unfolding is_probability le of_bits to_bits
zero_accepted = refl

pub halved_until_below_2 : HalvedUntilBelow2
halved_until_below_2 = record {
  zero_weighs = λ r c. weighs c zero_accepted ∙ ap Ok zero_weight;
  answered = λ p r c e h. (edge_weight p, (weighs c e, by_recipe p (in_range p e h)));
  weighed = λ p e h. by_recipe p (in_range p e h);
}

-- ---- half weights

zero_not_above : lt zero_float zero_float ≡ false
unfolding lt of_bits
zero_not_above = refl

-- the w of a place
at_place : (ps : List Float) (k : ℕ) → k < length ps → get_or (edge_weights ps) k zero_float ≡ edge_weight (get_or ps k zero_float)
at_place ps k h =
    get_d_any (edge_weights ps) k zero_float (edge_weight zero_float) (omega (arith, length-map ps edge_weight)) ∙ get_or-map edge_weight ps k zero_float

-- some w is above 0, so the largest is one of them
largest_w : (ps : List Float) → some_above (edge_weights ps) ≡ true → IsLargest (largest_weight ps) ps
largest_w ps a = elim (is_largest (edge_weights ps)).among [
  | inl z ↦ absurd (false≢true (sym zero_not_above ∙ ap (lt zero_float) (sym z) ∙ some_above_lem (edge_weights ps) ∙ a))
  | inr i ↦
      let there : i.place < length ps = omega (arith, i.there, length-map ps edge_weight) in
      record {
        edge = i.place;
        within = there;
        has_it = sym (at_place ps i.place there) ∙ sym i.is;
        none_above = λ k h.
            ap (lt (largest_weight ps)) (sym (at_place ps k h)) ∙ (is_largest (edge_weights ps)).bound k (omega (arith, length-map ps edge_weight));
      }
]

is_half_weight : (max : ℕ) (w l : Float) (n : ℕ) → n ≡ half_weight max w l → 1 ≤ n → n ≤ max → IsHalfWeight max w l n
unfolding half_weight
is_half_weight max w l n e a b =
    let g = greatest (scaled max w l) max in
    record {
      g = g;
      greatest_is = greatest_is (scaled max w l) max;
      zero_becomes_one = λ z. e ∙ ap at_least_one z;
      else_greatest = λ f. e ∙ itself g f;
      least = a;
      most = b;
    }
  where
    itself : (g : ℕ) → (g ≡ 0 → ⊥) → at_least_one g ≡ g
    itself zero f = absurd (f refl)
    itself (suc g) f = refl

pub half-weights_are_greatest : HalfWeightsAreGreatest
half-weights_are_greatest = record {
  half-weights = λ edges p column₀ max column c.
      let x = promise c in
      let both = written x refl in
      let limits = one_to_max x refl in
      (largest_weight (take edges p), (largest_w (take edges p) both.0.above, λ k h. is_half_weight max _ _ _ (both.1.first k h) (limits k h).0 (limits k h).1));
  nan_reaches_none = nan_reaches;
}

-- the w of p = 0 is above 0
some_zero : (ps : List Float) (i : ℕ) → i < length ps → get_or ps i zero_float ≡ zero_float → some_above (edge_weights ps) ≡ true
unfolding some_above lt of_bits
some_zero [] i h e = absurd (omega arith)
some_zero (p ∷ ps) zero h e = ap (λ (x : Float). lt zero_float x || some_above (edge_weights ps)) (ap edge_weight e ∙ zero_weight)
some_zero (p ∷ ps) (suc i) h e = ap (λ (b : Bool). lt zero_float (edge_weight p) || b) (some_zero ps i (omega arith) e) ∙ or_true (lt zero_float (edge_weight p))
  where
    or_true : (b : Bool) → (b || true) ≡ true
    or_true true = refl
    or_true false = refl

-- a question, and what follows where it is met
met_then : (b : Bool) (q n m : ℕ) → (b ≡ true → n ≡ m) → ask b q n ≡ ask b q m
met_then true q n m f = f refl
met_then false q n m f = refl

pub one_zero_one : OneZero
one_zero_one = record {
  half-weights = λ edges p column₀ max column c i l e k h. one_zero (promise c) refl i l e k h;
  number = λ edges p column₀ max r column c i l e.
      (promise c).answers.number_is
      ∙ met_then (leb edges (length p) && leb edges (length column₀)) 6 _ _ (λ six.
      let long = leb-true edges (length p) (and_both (leb edges (length p)) (leb edges (length column₀)) six).0 in
      ap (λ (b : Bool). ask (leb edges edge_limit) 7 (ask (is_largest_half_weight max) 8 (ask (all is_probability (take edges p)) 9 (ask b 10 0))))
      (some_zero (take edges p) i (omega (arith, length-take edges p, long)) (get_or-take edges p i zero_float l ∙ e)));
}

pub constants : ConstantsAre
constants = record { one_is = one_is; half_is = half_is; two_is = two_is; three_is = three_is; thirty_five_is = thirty_five_is; least_is = least_is }

-- ---- every p 0.5

-- three questions, and what follows where they are met
asked : (b6 b7 b8 : Bool) (n m : ℕ) → (b6 ≡ true → b7 ≡ true → b8 ≡ true → ask b6 6 (ask b7 7 (ask b8 8 n)) ≡ m) → ask b6 6 (ask b7 7 (ask b8 8 n)) ≡ ask b6 6 (ask b7 7 (ask b8 8 m))
asked false b7 b8 n m f = refl
asked true false b8 n m f = refl
asked true true false n m f = refl
asked true true true n m f = f refl refl refl

pub all-half_ten : AllHalf
all-half_ten edges p column₀ max r column c f =
    (promise c).answers.number_is
    ∙ asked (leb edges (length p) && leb edges (length column₀)) (leb edges edge_limit) (is_largest_half_weight max)
    (ask (all is_probability (take edges p)) 9 (ask (some_above (edge_weights (take edges p))) 10 0)) 10
    (λ six seven eight.
    let long = and_both (leb edges (length p)) (leb edges (length column₀)) six in
    let range = and_both (leb 1 max) (leb max half_weight_limit) eight in
    all-half edges p column₀ max (leb-true edges (length p) long.0) (leb-true edges (length column₀) long.1) (leb-true edges edge_limit seven) (leb-true 1 max range.0)
    (leb-true max half_weight_limit range.1) (λ k h. f k h (omega (arith, leb-true edges (length p) long.0))))
