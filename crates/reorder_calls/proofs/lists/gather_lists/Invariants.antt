-- `reorder_calls::lists::gather_lists` meets its contract: the lists of the first vertices in the new order are stored. Assumes nothing.
use mathlib.Core.Path.{◌≡◌}
use lib.ListN.{length}
use lib.Seq.{sets}
use Rattle.reorder_calls.proofs.Moving.{listsTo}
use Rattle.reorder_calls.proofs.lists.gather_lists.Given as goal

abbrev pub invariant-loop-vertex : goal.invariant-loop-vertex
invariant-loop-vertex l = (l.at ≡ length (listsTo l.order l.lengths l.from l.vertex-index)) × (l.to ≡ sets l.initial.to 0 (listsTo l.order l.lengths l.from l.vertex-index))
