-- `query_settling::settle` meets its contract. Invariant: the state after t turns. Assumes nothing.
use mathlib.Core.Path.{◌≡◌}
use Prim.Native.Nat.{ℕ}
use mathlib.Core.List.{List}
use lib.ListN.{length}
use Rattle.engine_walks.specs.Settling as S
use Rattle.query_relaxing.specs.Ready.{state_of, graph_of, weighs, Ready, sources, end_of}
use Rattle.query_settling.proofs.settle.Given as goal

abbrev pub invariant-loop-t : goal.invariant-loop-t
invariant-loop-t l =
    (length l.status ≡ length l.initial.status)
    × Ready (length l.initial.status) (state_of l.status l.weight l.previous) l.node l.leaf
    × ((m : List ℕ) → state_of l.status l.weight l.previous ≡ S.settle (graph_of (length l.initial.status) l.ends_a l.ends_b m) (weighs l.weights) (sources l.initial.status) (end_of (length l.initial.status) l.stop.0) l._t)
    × (length l.node ≡ length l.initial.node) × (l.n ≡ length l.initial.status)
