-- `query_search::sources::put_sources` meets its contract. Invariant: the keys of the first v vertices stand. Assumes nothing.
use mathlib.Core.Path.{◌≡◌}
use lib.ListN.{length}
use Rattle.query_queue.specs.Tree.{Tree}
use Rattle.query_relaxing.specs.Ready.{Keyed}
use Rattle.query_search.proofs.sources.put_sources.Given as goal

abbrev pub invariant-loop-v : goal.invariant-loop-v
invariant-loop-v l = (length l.node ≡ length l.initial.node) × Tree l.node l.leaf (length l.status) × Keyed l.status l.v l.leaf
