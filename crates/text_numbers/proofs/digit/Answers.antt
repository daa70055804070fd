-- `text_numbers::digit` meets its contract: `power_of_ten` promises the power, which is not 0, and 48 plus a digit fits a u8. Assumes nothing.
use mathlib.Core.Path.{ap}
use Prim.Native.Nat.{ℕ, ◌+◌, ◌/◌, ◌%◌}
use native.Mathlib.Omega.{arith}
use Rattle.text_numbers.proofs.Sizes.{some_power}
use Rattle.text_numbers.proofs.digit.Goals as goal

pub nonzero_div-result : goal.nonzero_div-result
nonzero_div-result c = omega (arith, c.power_of_ten-power.ensures, some_power c.args.k)

pub returns : goal.returns
returns c = ap (λ (p : ℕ). 48 + c.args.n / p % 10) c.power_of_ten-power.ensures
