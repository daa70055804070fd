-- An `Option` from numbers: whether there is a diagonal probability, any number but 0 for yes, and its value.
use Rattle.std.specs.Prelude.{ℕ, zero, suc, Float, Option, None, Some}

-- Weights, on the diagonal probability: absent or a number, from whether there is one and its value.
abbrev pub diagonal_from : ℕ → Float → Option Float
diagonal_from zero x = None
diagonal_from (suc n) x = Some x
