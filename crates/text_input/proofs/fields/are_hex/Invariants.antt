-- `text_input::fields::are_hex` meets its contract. Invariant: the first i bytes from `at` on are hexadecimal digits. Assumes nothing.
use mathlib.Core.Path.{◌≡◌}
use mathlib.Core.Bool.{true}
use Prim.Native.Nat.{◌-◌, ◌≤◌}
use lib.ListN.{take, drop}
use Rattle.columns.specs.Questions.{all}
use Rattle.text_input.specs.Line.{is_hex_digit}
use Rattle.text_input.proofs.fields.are_hex.Given as goal

abbrev pub invariant-loop-i : goal.invariant-loop-i
invariant-loop-i l = all is_hex_digit (take l.i (drop l.at l.text)) ≡ true
