-- The diagonal probability of kind 4: absent, or a number that replaces p on edges whose ends lie at Manhattan distance above 1.
use Rattle.std.specs.Prelude.{Bool, true, false, cond, Float, Option, None, Some}
use Rattle.std.specs.Float.{nan, inf, fin, binary64}
use Rattle.std.specs.Float.Ieee.{add, sub, div, lt}
use Rattle.columns.specs.declared.VisualizePosition.{VisualizePosition}
use Rattle.columns.specs.Places.{one}
use Rattle.weights_recipe.specs.Constants.{three}
use Rattle.weights_recipe.specs.Probabilities.{is_probability}

-- Weights, on the diagonal probability, sentence 1: the absolute value: the same number without its sign.
unfoldable pub absolute : Float → Float
absolute nan = nan
absolute (inf sign) = inf false
absolute (fin sign m e) = fin false m e

-- Weights, on the diagonal probability, sentence 1: the Manhattan distance |i - i'| + |j - j'| + |t - t'|, added from the left.
unfoldable pub manhattan_distance : VisualizePosition → VisualizePosition → Float
manhattan_distance a b =
    add binary64 (add binary64 (absolute (sub binary64 a.i b.i)) (absolute (sub binary64 a.j b.j))) (absolute (sub binary64 a.t b.t))

-- Weights, on the diagonal probability, sentence 1: an edge is diagonal where its ends lie at Manhattan distance above 1.
abbrev pub is_diagonal : VisualizePosition → VisualizePosition → Bool
is_diagonal a b = lt one (manhattan_distance a b)

-- Weights, on the diagonal probability, sentence 1: the number, where there is one, replaces p where the edge is diagonal.
abbrev pub replaced : Option Float → Float → Bool → Float
replaced None p diagonal = p
replaced (Some x) p diagonal = cond diagonal x p

-- Weights, on the diagonal probability, sentence 1: the p of an edge whose ends have these positions.
abbrev pub edge_probability : Float → Option Float → VisualizePosition → VisualizePosition → Float
edge_probability p d a b = replaced d p (is_diagonal a b)

-- Weights, on the diagonal probability, sentence 2: `new` gives p/3.
abbrev pub new_diagonal : Float → Option Float
new_diagonal p = Some (div binary64 p three)

-- Questions at the door, 9, of the diagonal probability.
abbrev pub is_diagonal_probability : Option Float → Bool
is_diagonal_probability None = true
is_diagonal_probability (Some x) = is_probability x
