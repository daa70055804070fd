-- What document 01 says of half weights, for any edge count and any columns. Assumes nothing.
use mathlib.Core.Path.{◌≡◌, refl, sym, ap, ◌∙◌, subst}
use mathlib.Core.Logic.{inl}
use mathlib.Core.Bool.{Bool, true, false, not, ◌&&◌, ◌||◌, cond}
use mathlib.Core.List.{List, [], ◌∷◌}
use Prim.Native.Nat.{ℕ, zero, suc, ◌^◌, ◌≤◌, ◌<◌, zero-le}
use native.Mathlib.Nat.{zero-lt-suc}
use native.Mathlib.Omega.{arith}
use lib.IntN.{pos}
use lib.Dec.{T, leb}
use lib.ListN.{length, take, get_or, length-take, length-map, get_or-map}
use lib.Seq.{get_or-take}
use lib.Ieee.{Float, nan, inf, fin, binary64, add, sub, mul, div, lt, le, eq, of_bits, to_bits, of_int, is_nan}
use borrow.Author.Tests.{le-leb, leb-true}
use Rattle.columns.specs.Limits.{edge_limit, half_weight_limit}
use Rattle.columns.specs.Questions.{ask, all}
use Rattle.columns.specs.Places.{zero_float, half}
use Rattle.columns.specs.declared.refusal.Refusal.{Refusal}
use Rattle.std.specs.Prelude.{Result, Ok}
use Rattle.columns_answers.specs.Said.{said}
use Rattle.columns.proofs.Columns.{get_d_any, over-in, over-past, after-accepted}
use Rattle.columns.proofs.Tests.{and_both, both_and, at_all}
use Rattle.weights_recipe.specs.Probabilities.{is_probability}
use Rattle.weights_recipe.specs.Logarithm.{halve, series, logarithm, edge_weight}
use Rattle.weights_recipe.specs.Rounding.{reaches, greatest, scaled, at_least_one, half_weight}
use Rattle.weights_calls.specs.Calls.{larger, largest, edge_weights, largest_weight, some_above, is_largest_half_weight, half_weights, compute_refusal, ComputedWeights}
use Rattle.weights_recipe.proofs.Recipe.{zero_weight}
use Rattle.weights_recipe.proofs.Search.{is_greatest, misses, greatest_within}
use Rattle.columns.proofs.Refusals.{met, goes_on}

-- ---- what an accepted call knows

pub record Met (edges : ℕ) (p : List Float) (column : List ℕ) (max : ℕ) : Type 0 where
  pub long_p : edges ≤ length p
  pub long_column : edges ≤ length column
  pub few : edges ≤ edge_limit
  pub least : 1 ≤ max
  pub most : max ≤ half_weight_limit
  pub probabilities : all is_probability (take edges p) ≡ true
  pub above : some_above (edge_weights (take edges p)) ≡ true

pub all_met : (edges : ℕ) (p : List Float) (column : List ℕ) (max : ℕ) → compute_refusal edges p column max ≡ 0 → Met edges p column max
all_met edges p column max e =
    let six = leb edges (length p) && leb edges (length column) in
    let seven = leb edges edge_limit in
    let eight = is_largest_half_weight max in
    let nine = all is_probability (take edges p) in
    let ten = some_above (edge_weights (take edges p)) in
    let after6 = goes_on six 5 _ e in
    let after7 = goes_on seven 6 _ after6 in
    let after8 = goes_on eight 7 _ after7 in
    let after9 = goes_on nine 8 _ after8 in
    let long = and_both (leb edges (length p)) (leb edges (length column)) (met six 5 _ e) in
    let range = and_both (leb 1 max) (leb max half_weight_limit) (met eight 7 _ after7) in
    record {
      long_p = leb-true edges (length p) long.0;
      long_column = leb-true edges (length column) long.1;
      few = leb-true edges edge_limit (met seven 6 _ after6);
      least = leb-true 1 max range.0;
      most = leb-true max half_weight_limit range.1;
      probabilities = met nine 8 _ after8;
      above = met ten 9 _ after9;
    }

-- an accepted call's column: the half weight of each edge, and what stood there past the edges
pub record Written (edges : ℕ) (p : List Float) (before : List ℕ) (max : ℕ) (column : List ℕ) : Type 0 where
  pub first : (k : ℕ) → k < edges → get_or column k 0 ≡ half_weight max (edge_weight (get_or p k zero_float)) (largest_weight (take edges p))
  pub past : (k : ℕ) → edges ≤ k → get_or column k 0 ≡ get_or before k 0

pub written : {edges : ℕ} {p : List Float} {before : List ℕ} {max : ℕ} {column : List ℕ} {answer : Result (Unit {0}) Refusal} → ComputedWeights edges p before max column answer → answer ≡ Ok tt
    → Met edges p before max × Written edges p before max column
written {edges} {p} {before} {max} {column} {answer} w a =
    let q = compute_refusal edges p before max in
    let zero : q ≡ 0 = sym w.answers.number_is ∙ ap (λ (r : Result (Unit {0}) Refusal). (said tt r).number) a in
    let m = all_met edges p before max zero in
    let ps = take edges p in
    let one : Float → ℕ = λ x. half_weight max (edge_weight x) (largest_weight ps) in
    let size : length (half_weights max ps) ≡ edges = omega (arith, length-map ps one, length-take edges p, m.long_p) in
    let is = w.column_after ∙ after-accepted q (half_weights max ps) before zero in (
      m,
      record {
        first = λ k h.
            ap (λ (l : List ℕ). get_or l k 0) is ∙ over-in (half_weights max ps) before 0 k (omega arith)
            ∙ get_d_any (half_weights max ps) k 0 (one zero_float) (omega arith) ∙ get_or-map one ps k zero_float ∙ ap one (get_or-take edges p k zero_float h);
        past = λ k h. ap (λ (l : List ℕ). get_or l k 0) is ∙ over-past (half_weights max ps) before 0 k (omega arith);
      },
    )

-- ---- half weights are 1 to M

at_least : (n : ℕ) → 1 ≤ at_least_one n
at_least zero = omega arith
at_least (suc n) = omega arith

at_most_of : (n max : ℕ) → n ≤ max → 1 ≤ max → at_least_one n ≤ max
at_most_of zero max h k = k
at_most_of (suc n) max h k = h

pub within : (max : ℕ) (w l : Float) → 1 ≤ max → (1 ≤ half_weight max w l) × (half_weight max w l ≤ max)
unfolding half_weight
within max w l h =
    let n = greatest (scaled max w l) max in
    (at_least n, at_most_of n max (greatest_within (scaled max w l) max) h)

-- every half weight that an accepted call writes
pub one_to_max : {edges : ℕ} {p : List Float} {before : List ℕ} {max : ℕ} {column : List ℕ} {answer : Result (Unit {0}) Refusal} → ComputedWeights edges p before max column answer → answer ≡ Ok tt
    → (k : ℕ) → k < edges → (1 ≤ get_or column k 0) × (get_or column k 0 ≤ max)
one_to_max {edges} {p} {before} {max} {column} w a k h =
    let both = written w a in
    subst (λ (n : ℕ). (1 ≤ n) × (n ≤ max)) (sym (both.1.first k h)) (within max _ _ both.0.least)

-- ---- one p of 0 makes every half weight 1

-- once the largest is +infinity it stays
stays : (ws : List Float) → largest (inf false) ws ≡ inf false
unfolding largest lt
stays [] = refl
stays (nan ∷ ws) = stays ws
stays (inf s ∷ ws) = stays ws
stays (fin s m e ∷ ws) = stays ws

taken : (m : Float) → T (not (is_nan m)) → larger m (inf false) ≡ inf false
unfolding lt is_nan
taken nan t = absurd t
taken (inf true) t = refl
taken (inf false) t = refl
taken (fin s m e) t = refl

-- a NaN is never taken
below_nan : (m : Float) → lt m nan ≡ false
unfolding lt
below_nan nan = refl
below_nan (inf s) = refl
below_nan (fin s m e) = refl

either : (b : Bool) (x y : Float) → T (not (is_nan x)) → T (not (is_nan y)) → T (not (is_nan (cond b x y)))
either true x y t u = t
either false x y t u = u

no_nan : (m w : Float) → T (not (is_nan m)) → T (not (is_nan (larger m w)))
unfolding is_nan
no_nan m nan t = subst (λ (b : Bool). T (not (is_nan (cond b nan m)))) (sym (below_nan m)) t
no_nan m (inf s) t = either (lt m (inf s)) (inf s) m tt t
no_nan m (fin s n e) t = either (lt m (fin s n e)) (fin s n e) m tt t

infinite_largest : (m : Float) (ps : List Float) (i : ℕ) → T (not (is_nan m)) → i < length ps → get_or ps i zero_float ≡ zero_float → largest m (edge_weights ps) ≡ inf false
unfolding largest
infinite_largest m [] i t h e = absurd (omega arith)
infinite_largest m (p ∷ ps) zero t h e =
    ap (λ (x : Float). largest (larger m x) (edge_weights ps)) (ap edge_weight e ∙ zero_weight) ∙ ap (λ (x : Float). largest x (edge_weights ps)) (taken m t) ∙ stays (edge_weights ps)
infinite_largest m (p ∷ ps) (suc i) t h e = infinite_largest (larger m (edge_weight p)) ps i (no_nan m (edge_weight p) t) (omega arith) e

zero_no_nan : T (not (is_nan zero_float))
unfolding is_nan of_bits
zero_no_nan = tt

-- what is divided by +infinity is 0 or a NaN, and reaches nothing
by_infinity_one : (x : Float) → reaches (div binary64 x (inf false)) 1 ≡ false
unfolding reaches div sub le of_bits of_int
by_infinity_one nan = refl
by_infinity_one (inf s) = refl
by_infinity_one (fin true m e) = refl
by_infinity_one (fin false m e) = refl

misses_one : (max : ℕ) (w : Float) → reaches (scaled max w (inf false)) 1 ≡ false
unfolding scaled
misses_one max w = by_infinity_one (mul binary64 (of_int binary64 (pos max)) w)

by_infinity : (max : ℕ) (w : Float) → max ≤ 2 ^ 53 → half_weight max w (inf false) ≡ 1
unfolding half_weight
by_infinity max w h =
    ap at_least_one
    (is_greatest (scaled max w (inf false)) max 0
    (record { within = zero-le; met = inl refl; last = λ n a b. misses (scaled max w (inf false)) 1 n max (zero-lt-suc 0) a b h (misses_one max w) }))

-- by the definitions alone
pub zero_among : (max : ℕ) (ps : List Float) (i : ℕ) → max ≤ 2 ^ 53 → i < length ps → get_or ps i zero_float ≡ zero_float → (w : Float) → half_weight max w (largest_weight ps) ≡ 1
zero_among max ps i m h e w =
    ap (λ (x : Float). half_weight max w x) (infinite_largest zero_float ps i zero_no_nan h e) ∙ by_infinity max w m

-- every half weight that an accepted call writes, where one edge has p = 0
pub one_zero : {edges : ℕ} {p : List Float} {before : List ℕ} {max : ℕ} {column : List ℕ} {answer : Result (Unit {0}) Refusal} → ComputedWeights edges p before max column answer → answer ≡ Ok tt
    → (i : ℕ) → i < edges → get_or p i zero_float ≡ zero_float → (k : ℕ) → k < edges → get_or column k 0 ≡ 1
one_zero {edges} {p} {before} {max} {column} w a i l e k h =
    let both = written w a in
    both.1.first k h
    ∙ zero_among max (take edges p) i (omega (arith, both.0.most)) (omega (arith, length-take edges p, both.0.long_p)) (get_or-take edges p i zero_float l ∙ e) (edge_weight (get_or p k zero_float))

-- ---- every p 0.5 is refused by 10

half-weighs : edge_weight half ≡ zero_float
unfolding edge_weight logarithm halve series add sub mul div lt eq of_bits of_int
half-weighs = refl

none_above : lt zero_float zero_float ≡ false
unfolding lt of_bits
none_above = refl

half_passes : is_probability half ≡ true
unfolding is_probability le of_bits to_bits
half_passes = refl

all_level : (ps : List Float) → ((i : ℕ) → i < length ps → get_or ps i zero_float ≡ half) → some_above (edge_weights ps) ≡ false
unfolding some_above
all_level [] f = refl
all_level (p ∷ ps) f =
    ap (λ (x : Float). lt zero_float x || some_above (edge_weights ps)) (ap edge_weight (f 0 (omega arith)) ∙ half-weighs)
    ∙ ap (λ (b : Bool). b || some_above (edge_weights ps)) none_above ∙ all_level ps (λ i h. f (suc i) (omega arith))

pub all-half : (edges : ℕ) (p : List Float) (column : List ℕ) (max : ℕ) → edges ≤ length p → edges ≤ length column → edges ≤ edge_limit → 1 ≤ max → max ≤ half_weight_limit
    → ((i : ℕ) → i < edges → get_or p i zero_float ≡ half) → compute_refusal edges p column max ≡ 10
all-half edges p column max a b c d e f =
    let ps = take edges p in
    let each : (i : ℕ) → i < length ps → get_or ps i zero_float ≡ half = λ i h.
    let l : i < edges = omega (arith, length-take edges p) in get_or-take edges p i zero_float l ∙ f i l in
    let nine = at_all is_probability ps zero_float (λ i h. ap is_probability (each i h) ∙ half_passes) in
    refused (both_and (le-leb edges (length p) a) (le-leb edges (length column) b)) (le-leb edges edge_limit c) (both_and (le-leb 1 max d) (le-leb max half_weight_limit e)) nine (all_level ps each)
  where
    refused : {x6 x7 x8 x9 x10 : Bool} → x6 ≡ true → x7 ≡ true → x8 ≡ true → x9 ≡ true → x10 ≡ false → ask x6 6 (ask x7 7 (ask x8 8 (ask x9 9 (ask x10 10 0)))) ≡ 10
    refused {x6} {x7} {x8} {x9} {x10} e6 e7 e8 e9 e10 = simp (e6, e7, e8, e9, e10)
