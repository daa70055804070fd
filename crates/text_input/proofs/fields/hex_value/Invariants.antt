-- `text_input::fields::hex_value` meets its contract. Invariant: v is what the first i digits write, and 16 digits fit a u64. Assumes nothing.
use mathlib.Core.Path.{◌≡◌}
use Prim.Native.Nat.{◌-◌, ◌≤◌}
use lib.ListN.{take, drop}
use Rattle.text_input.specs.Line.{hex_digit_of, number_written}
use Rattle.text_input.proofs.fields.hex_value.Given as goal

abbrev pub invariant-loop-i : goal.invariant-loop-i
invariant-loop-i l = l.v ≡ number_written 16 hex_digit_of 0 (take l.i (drop l.at l.text))
