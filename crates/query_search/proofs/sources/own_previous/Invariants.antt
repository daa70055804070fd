-- `query_search::sources::own_previous` meets its contract. Invariant: the first v places are written. Assumes nothing.
use mathlib.Core.Path.{◌≡◌}
use lib.Seq.{sets}
use Rattle.columns.specs.Lists.{each}
use Rattle.query_search.proofs.sources.own_previous.Given as goal

abbrev pub invariant-loop-v : goal.invariant-loop-v
invariant-loop-v l = l.previous ≡ sets l.initial.previous 0 (each l.v (λ u. u))
