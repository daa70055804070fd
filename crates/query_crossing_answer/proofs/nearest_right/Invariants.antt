-- `query_crossing_answer::nearest_right` meets its contract. Invariant: the least weight among the first v vertices. Assumes nothing.
use mathlib.Core.Path.{◌≡◌}
use mathlib.Core.Bool.{◌&&◌}
use mathlib.Core.List.{List}
use Prim.Native.Nat.{ℕ}
use lib.ListN.{get_or}
use lib.Dec.{eqb}
use Rattle.engine_walks.specs.Answers.{taken}
use Rattle.query_relaxing.specs.Ready.{state_of}
use Rattle.query_crossing_answer.proofs.Nearest.{best}
use Rattle.query_crossing_answer.proofs.nearest_right.Given as goal

abbrev pub invariant-loop-v : goal.invariant-loop-v
invariant-loop-v l = (p : List ℕ) → l.best ≡ best (state_of l.status l.weight p) (λ u. eqb (get_or l.boundary u 0) 2 && taken (state_of l.status l.weight p) u) l.v
