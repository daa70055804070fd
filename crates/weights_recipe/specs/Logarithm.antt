-- The weight of an edge with probability p: the stand-in for ln of (1 - p) / p, each operation rounded once.
use Rattle.std.specs.Prelude.{◌≡◌, ℕ, zero, suc, ◌+◌, ◌*◌, ◌<◌, ◌≤◌, Bool, true, false, cond, pos, Float}
use Rattle.std.specs.Float.{inf, binary64}
use Rattle.std.specs.Float.Ieee.{add, sub, mul, div, lt, eq, of_int}
use Rattle.columns.specs.Places.{zero_float, one, half}
use Rattle.weights_recipe.specs.Constants.{two, thirty_five, ln2}

-- Weights, on the logarithm, sentence 3: q = (1 - p) / p.
abbrev pub odds : Float → Float
odds p = div binary64 (sub binary64 one p) p

-- Weights, on the logarithm, sentence 3: what halving leaves: m, after k halvings.
pub record Halved : Type 0 where
  pub m : Float
  pub k : ℕ

-- Weights, on the logarithm, sentence 3: halve q until it is below 2; `below` says whether q is, k counts the halvings made.
-- At most `most` halvings: 64 are never used up where question 9 accepts p (`HalvedUntilBelow2`, weights_claims).
unfoldable pub halve : (most : ℕ) (below : Bool) (q : Float) (k : ℕ) → Halved
halve zero below q k = record { m = q; k = k }
halve (suc most) true q k = record { m = q; k = k }
halve (suc most) false q k = halve most (lt (mul binary64 q half) two) (mul binary64 q half) (k + 1)

-- Weights, on the logarithm, sentence 3: q halved k times, for any k.
unfoldable pub halved_times : (k : ℕ) (q : Float) → Float
halved_times zero q = q
halved_times (suc k) q = halved_times k (mul binary64 q half)

-- Weights, on the logarithm, sentence 3: halve q until it is below 2, k times: halved k times it is below 2, halved fewer times it is not.
pub record UntilBelow2 (q : Float) (k : ℕ) : Type 0 where
  pub below : lt (halved_times k q) two ≡ true
  pub before : (j : ℕ) → j < k → lt (halved_times j q) two ≡ false

-- Weights, on the logarithm, sentence 3: h = h·z + 1/(2n+1) for each n from `count` - 1 down to 0.
unfoldable pub series : (count : ℕ) (z h : Float) → Float
series zero z h = h
series (suc n) z h = series n z (add binary64 (mul binary64 h z) (div binary64 one (of_int binary64 (pos (2 * n + 1)))))

-- Weights, on the logarithm, sentence 3: s = (m - 1) / (m + 1).
abbrev pub fraction : Float → Float
fraction m = div binary64 (sub binary64 m one) (add binary64 m one)

-- Weights, on the logarithm, sentence 3: k·LN2 + (2·s)·h, where h starts as 1/35, z = s·s and n runs from 16 down to 0.
unfoldable pub logarithm : Halved → Float
logarithm r =
    let s = fraction r.m in
    add binary64 (mul binary64 (of_int binary64 (pos r.k)) ln2) (mul binary64 (mul binary64 two s) (series 17 (mul binary64 s s) (div binary64 one thirty_five)))

-- Weights, on the logarithm, sentences 2 and 3: the weight w of an edge: p = 0 gives +infinity, else the logarithm of the odds.
unfoldable pub edge_weight : Float → Float
edge_weight p = cond (eq p zero_float) (inf false) (logarithm (halve 64 (lt (odds p) two) (odds p) 0))

-- Weights, on the logarithm, sentence 3: w is what the recipe gives for p: q = (1 - p) / p is halved until it is below 2, k times, giving m; the result is made of k and m.
-- Where question 9 accepts p, 40 halvings are enough.
pub record ByRecipe (p w : Float) : Type 0 where
  pub k : ℕ
  pub few : k ≤ 40
  pub until : UntilBelow2 (odds p) k
  pub result : w ≡ logarithm (record { m = halved_times k (odds p); k = k })
