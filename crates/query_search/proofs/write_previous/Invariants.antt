-- `query_search::write_previous` meets its contract. Invariant: the first v rows are written. Assumes nothing.
use mathlib.Core.Path.{◌≡◌}
use Prim.Native.Nat.{ℕ}
use mathlib.Core.List.{List}
use lib.Seq.{sets}
use Rattle.columns.specs.Lists.{each}
use Rattle.engine_walks.specs.Answers.{table_previous}
use Rattle.query_relaxing.specs.Ready.{state_of}
use Rattle.query_search.proofs.write_previous.Given as goal

abbrev pub invariant-loop-v : goal.invariant-loop-v
invariant-loop-v l = (w : List ℕ) → l.out ≡ sets l.initial.out 0 (each l.v (table_previous (state_of l.status w l.previous)))
