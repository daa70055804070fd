-- The f64 numbers of document 01's "Weights" and of question 9, by their bits.
use Rattle.std.specs.Prelude.{from_bits, Float}
use Rattle.std.specs.Float.{binary64}

-- Weights, on the logarithm: 2.
abbrev pub two : Float
two = from_bits binary64 0x4000_0000_0000_0000

-- Weights, on the diagonal probability, sentence 2: 3.
abbrev pub three : Float
three = from_bits binary64 0x4008_0000_0000_0000

-- Weights, on the logarithm, sentence 3: 35.
abbrev pub thirty_five : Float
thirty_five = from_bits binary64 0x4041_8000_0000_0000

-- Questions at the door, 9: 2 to the power -40, the least p above 0.
abbrev pub least_p : Float
least_p = from_bits binary64 0x3d70_0000_0000_0000

-- Weights, on the logarithm, sentence 3: LN2.
abbrev pub ln2 : Float
ln2 = from_bits binary64 0x3fe6_2e42_fefa_39ef
