-- `reorder_orders::gather` meets its contract: after i turns the first i listed places are stored. Assumes nothing.
use mathlib.Core.Path.{◌≡◌}
use mathlib.Core.List.{map}
use lib.ListN.{get_or, take}
use lib.Seq.{sets}
use Rattle.reorder_orders.proofs.gather.Given as goal

abbrev pub invariant-loop-i : goal.invariant-loop-i
invariant-loop-i g l = (d : g.row.T.Denot) → l.to ≡ sets l.initial.to 0 (map (λ u. get_or l.from u d) (take l.i l.list))
