-- `reorder_orders::fresh_in` meets its contract: after i turns the first i numbers are marked and differ. Assumes nothing.
use mathlib.Core.Path.{◌≡◌}
use mathlib.Core.Bool.{true}
use lib.ListN.{get_or}
use Rattle.columns.specs.Questions.{every}
use Rattle.reorder_orders.proofs.Gathering.{unseen, Seen}
use Rattle.reorder_orders.proofs.fresh_in.Given as goal

abbrev pub invariant-loop-vertex : goal.invariant-loop-vertex
invariant-loop-vertex l = Seen l.order l.vertex-index l.seen × (every l.vertex-index (λ k. unseen l.order k (get_or l.order k 0)) ≡ true)
