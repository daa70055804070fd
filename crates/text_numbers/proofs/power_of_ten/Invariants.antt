-- `text_numbers::power_of_ten` meets its contract. Invariant: `power` is 10 ^ i, and i is at most k, so that the product fits a u32. Assumes nothing.
use mathlib.Core.Path.{◌≡◌}
use Prim.Native.Nat.{◌-◌, ◌^◌, ◌≤◌}
use Rattle.text_numbers.proofs.power_of_ten.Given as goal

abbrev pub invariant-loop-i : goal.invariant-loop-i
invariant-loop-i l = (l.i ≤ l.k) × (l.power ≡ 10 ^ l.i)
