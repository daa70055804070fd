-- `text_numbers::size` meets its contract. Invariant: `size_in 9 n` is `size_in k n` for the place k that comes next, one below the range that is left. Assumes nothing.
use mathlib.Core.Path.{◌≡◌}
use Prim.Native.Nat.{◌-◌}
use Rattle.text_numbers.specs.Text.{size_in}
use Rattle.text_numbers.proofs.size.Given as goal

abbrev pub invariant-loop-k : goal.invariant-loop-k
invariant-loop-k l = size_in 9 l.n ≡ size_in (l.k - 1) l.n
