-- The positions of vertices, one column for each coordinate.
use Rattle.std.specs.Prelude.{ℕ, List, get_or, Float}
use Rattle.std.specs.Float.{binary64}
use Rattle.std.specs.Float.Ieee.{of_bits}
use Rattle.columns.specs.declared.VisualizePosition.{VisualizePosition}

-- Six builders, on new edges, sentence 1: the f64 0, by its bits.
abbrev pub zero_float : Float
zero_float = of_bits binary64 0

-- Questions at the door, 9: the f64 1, by its bits.
abbrev pub one : Float
one = of_bits binary64 0x3ff0_0000_0000_0000

-- Questions at the door, 9: the f64 0.5, by its bits.
abbrev pub half : Float
half = of_bits binary64 0x3fe0_0000_0000_0000

-- Records, on vertices: the position with the coordinates i, j and t.
abbrev pub position : Float → Float → Float → VisualizePosition
position i j t = record { i = i; j = j; t = t }

-- Records, on vertices: the position of vertex v in the columns of i, j and t, 0 past their ends.
abbrev pub position_at : List Float → List Float → List Float → ℕ → VisualizePosition
position_at i j t v = position (get_or i v zero_float) (get_or j v zero_float) (get_or t v zero_float)
