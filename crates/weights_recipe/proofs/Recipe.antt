-- The turns of the halving loop, and what the last line of `edge_weight` computes, against the definition. Assumes nothing.
use Rattle.std.proofs.Common.{◌≡◌, ℕ, zero, suc, ◌+◌, ◌-◌, ◌<◌, Bool, true, false, cond, pos, sym, refl, ap, ◌∙◌, arith}
use lib.Ieee.{Float, inf, binary64, add, mul, div, lt, eq, of_bits, of_int}
use Rattle.columns.specs.Places.{zero_float, one, half}
use Rattle.weights_recipe.specs.Constants.{two, thirty_five, ln2}
use Rattle.weights_recipe.proofs.Floats.{zero_equal}
use Rattle.weights_recipe.specs.Logarithm.{odds, Halved, halve, series, fraction, logarithm, edge_weight}

-- what is left to be done after k halvings
abbrev pub from : ℕ → Float → Halved
from k q = halve (64 - k) (lt q two) q k

abbrev pub ended : ℕ → Float → Halved
ended k q = record { m = q; k = k }

-- no turn is left
pub spent : (most : ℕ) (below : Bool) (q : Float) (k : ℕ) → most ≡ 0 → halve most below q k ≡ ended k q
unfolding halve
spent zero below q k e = refl
spent (suc f) below q k e = absurd (omega arith)

-- q is below 2
pub stops : (most : ℕ) (q : Float) (k : ℕ) → lt q two ≡ true → halve most (lt q two) q k ≡ ended k q
unfolding halve
stops most q k e = ap (λ (b : Bool). halve most b q k) e ∙ below most
  where
    below : (f : ℕ) → halve f true q k ≡ ended k q
    below zero = refl
    below (suc f) = refl

-- a turn
pub turn : (k : ℕ) (q : Float) → k < 64 → lt q two ≡ false → from (k + 1) (mul binary64 q half) ≡ from k q
unfolding halve
turn k q h e = go (64 - k) (64 - (k + 1)) (omega arith) ∙ ap (λ (b : Bool). halve (64 - k) b q k) (sym e)
  where
    go : (f g : ℕ) → f ≡ g + 1 → halve g (lt (mul binary64 q half) two) (mul binary64 q half) (k + 1) ≡ halve f false q k
    go zero g r = absurd (omega arith)
    go (suc f) g r = let s : g ≡ f = omega arith in ap (λ (x : ℕ). halve x (lt (mul binary64 q half) two) (mul binary64 q half) (k + 1)) s

pub infinite : div binary64 one zero_float ≡ inf false
unfolding div of_bits
infinite = refl

pub at_zero : (p : Float) → eq p zero_float ≡ true → edge_weight p ≡ inf false
unfolding edge_weight
at_zero p e = ap (λ (b : Bool). cond b (inf false) (logarithm (from 0 (odds p)))) e

-- an edge with p = 0 weighs +infinity
pub zero_weight : edge_weight zero_float ≡ inf false
zero_weight = at_zero zero_float zero_equal

pub past_zero : (p : Float) (r : Halved) → eq p zero_float ≡ false → r ≡ from 0 (odds p) → logarithm r ≡ edge_weight p
unfolding edge_weight
past_zero p r e h = ap logarithm h ∙ ap (λ (b : Bool). cond b (inf false) (logarithm (from 0 (odds p)))) (sym e)

pub last_line : (k : ℕ) (q h : Float) → h ≡ series 17 (mul binary64 (fraction q) (fraction q)) (div binary64 one thirty_five)
    → add binary64 (mul binary64 (of_int binary64 (pos k)) ln2) (mul binary64 (mul binary64 two (fraction q)) h) ≡ logarithm (ended k q)
unfolding logarithm
last_line k q h e = ap (λ (x : Float). add binary64 (mul binary64 (of_int binary64 (pos k)) ln2) (mul binary64 (mul binary64 two (fraction q)) x)) e
