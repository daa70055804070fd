-- Question 9, of one number. A NaN is neither below nor above a number and is not the bits of 0, so it fails each of these tests.
use Rattle.std.specs.Prelude.{Bool, ◌&&◌, ◌||◌, ◌==◌, to_bits, Float}
use Rattle.std.specs.Float.{binary64}
use Rattle.std.specs.Float.Ieee.{le}
use Rattle.columns.specs.Places.{zero_float, one, half}
use Rattle.weights_recipe.specs.Constants.{least_p}

-- Questions at the door, 9: p is 0, not negative zero: the f64 whose bits are all 0.
abbrev pub is_plus_zero : Float → Bool
is_plus_zero p = to_bits binary64 p == 0

-- Questions at the door, 9: p is from 2 to the power -40 to 0.5.
abbrev pub is_in_range : Float → Bool
is_in_range p = le least_p p && le p half

-- Questions at the door, 9, of a p: 0 (not negative zero) or from 2 to the power -40 to 0.5.
unfoldable pub is_probability : Float → Bool
is_probability p = is_plus_zero p || is_in_range p

-- Questions at the door, 9, of a pe: 0 to 1.
abbrev pub is_erasure_probability : Float → Bool
is_erasure_probability pe = le zero_float pe && le pe one
