-- `text_numbers::size` meets its contract. Invariant: `size_in 9 n` is `size_in k n` for the place k that comes next, one below the range that is left. Assumes nothing.
use mathlib.Core.Path.{sym, ◌∙◌}
use Prim.Native.Nat.{◌-◌}
use native.Mathlib.Omega.{arith}
use Rattle.text_numbers.proofs.Sizes.{size_here, size_below, size_end}
use Rattle.text_numbers.proofs.size.Goals as goal

pub returns-then-power_of_ten-n : goal.returns-then-power_of_ten-n
returns-then-power_of_ten-n c = (size_here (c.loop-k.k - 1) c.args.n (omega arith) (omega (arith, c.power_of_ten.ensures)) ∙ sym c.loop-k.invariant, omega arith)

pub loop-k-preserved : goal.loop-k-preserved
loop-k-preserved c = c.loop-k.invariant ∙ size_below (c.loop-k.k - 1) c.args.n (omega arith) (omega (arith, c.power_of_ten.ensures))

pub returns : goal.returns
returns c = (size_end (c.loop-k.k - 1) c.args.n (omega arith) ∙ sym c.loop-k.invariant, omega arith)
