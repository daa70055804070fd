-- The least weight among right vertices, as the functions below the crossing query hand it on.
use Rattle.std.specs.Prelude.{ℕ, min, Option, Some, None}
use Rattle.std.proofs.Math.Option as maybe

-- Engine, Crossing, sentence 1: a weight, if there is one.
abbrev pub if_any : maybe.Option ℕ → Option ℕ
if_any maybe.none = None
if_any (maybe.some weight) = Some weight

-- Engine, Crossing, sentence 1: the lesser of a weight and the least so far.
abbrev pub lesser_weight : (weight : ℕ) → Option ℕ → Option ℕ
lesser_weight weight None = Some weight
lesser_weight weight (Some least) = Some (min weight least)
