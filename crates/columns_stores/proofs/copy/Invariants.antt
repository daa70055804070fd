-- `columns_stores::copy` meets its contract. Invariant: i elements are copied. Assumes nothing.
use mathlib.Core.Path.{◌≡◌}
use lib.ListN.{length, take}
use lib.Seq.{sets}
use Rattle.columns_stores.proofs.copy.Given as goal

abbrev pub invariant-loop-i : goal.invariant-loop-i
invariant-loop-i g l = (length l.to ≡ length l.initial.to) × (l.to ≡ sets l.initial.to 0 (take l.i l.from))
