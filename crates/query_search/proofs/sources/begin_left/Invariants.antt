-- `query_search::sources::begin_left` meets its contract. Invariant: the bytes of the first v vertices are written. Assumes nothing.
use mathlib.Core.Path.{◌≡◌}
use lib.ListN.{get_or}
use lib.Seq.{sets}
use Rattle.columns.specs.Lists.{each}
use Rattle.engine_walks.specs.Lists.{delta}
use Rattle.query_search.proofs.sources.begin_left.Given as goal

abbrev pub invariant-loop-v : goal.invariant-loop-v
invariant-loop-v l = l.status ≡ sets l.initial.status 0 (each l.v (λ u. delta (get_or l.boundary u 0) 1))
