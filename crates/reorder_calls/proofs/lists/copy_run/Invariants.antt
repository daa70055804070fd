-- `reorder_calls::lists::copy_run` meets its contract: after i turns the first i numbers are stored. Assumes nothing.
use mathlib.Core.Path.{◌≡◌}
use lib.ListN.{length, take, drop}
use lib.Seq.{sets}
use Rattle.reorder_calls.proofs.lists.copy_run.Given as goal

abbrev pub invariant-loop-i : goal.invariant-loop-i
invariant-loop-i l = (l.to ≡ sets l.initial.to l.at (take l.i (drop l.start l.from))) × (length l.to ≡ length l.initial.to)
