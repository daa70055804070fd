-- `query_search::write_weights` meets its contract. Invariant: the first v rows are written. Assumes nothing.
use mathlib.Core.Path.{◌≡◌}
use Prim.Native.Nat.{ℕ}
use mathlib.Core.List.{List}
use lib.Seq.{sets}
use Rattle.columns.specs.Lists.{each}
use Rattle.engine_walks.specs.Answers.{table_weight}
use Rattle.query_relaxing.specs.Ready.{state_of}
use Rattle.query_search.proofs.write_weights.Given as goal

abbrev pub invariant-loop-v : goal.invariant-loop-v
invariant-loop-v l = (p : List ℕ) → l.out ≡ sets l.initial.out 0 (each l.v (table_weight (state_of l.status l.weight p)))
