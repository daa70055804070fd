-- `columns_stores::fill` meets its contract. Invariant: the value is stored at the places passed. Assumes nothing.
use mathlib.Core.Path.{◌≡◌}
use lib.ListN.{replicate}
use lib.Seq.{sets}
use Rattle.columns_stores.proofs.fill.Given as goal

abbrev pub invariant-loop-place : goal.invariant-loop-place
invariant-loop-place g l = l.place-items ≡ sets l.initial.place-items 0 (replicate l.place-index l.value)
