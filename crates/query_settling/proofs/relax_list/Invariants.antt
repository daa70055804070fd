-- `query_settling::relax_list` meets its contract. Invariant: the state after the places before i. Assumes nothing.
use mathlib.Core.Path.{◌≡◌}
use Prim.Native.Nat.{ℕ, ◌-◌}
use mathlib.Core.List.{List}
use lib.ListN.{length, take, drop}
use Rattle.query_relaxing.specs.Ready.{state_of, graph_of, weighs, Ready}
use Rattle.engine_walks.specs.Settling.{relax_along}
use Rattle.query_settling.proofs.relax_list.Given as goal

abbrev pub invariant-loop-i : goal.invariant-loop-i
invariant-loop-i l =
    (length l.status ≡ length l.initial.status)
    × Ready (length l.initial.status) (state_of l.status l.weight l.previous) l.node l.leaf
    × ((n : ℕ) (m : List ℕ) → state_of l.status l.weight l.previous ≡ relax_along (graph_of n l.ends_a l.ends_b m) (weighs l.weights) l.a.0 l.q.0 l.w (take (l.i - l.from) (drop l.from l.neighbor_numbers)) (state_of l.initial.status l.initial.weight l.initial.previous))
    × (length l.node ≡ length l.initial.node)
