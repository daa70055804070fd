-- `sanity_verdicts::lists::first_without` meets its contract. Invariant: the first v vertices have edges. Assumes nothing.
use Prim.Native.Nat.{ℕ}
use mathlib.Core.Path.{◌≡◌}
use mathlib.Core.List.{List}
use lib.Dec.{eqb}
use lib.ListN.{get_or}
use Rattle.std.specs.Prelude.{Option, None}
use Rattle.sanity_verdicts.specs.declared.Finding.{Finding}
use Rattle.sanity_verdicts.specs.declared.Finding.TheVariants.{NoEdges}
use Rattle.sanity_verdicts.specs.Sanity.{vertex_numbered, first_of, found_if}
use Rattle.sanity_verdicts.proofs.lists.first_without.Given as goal

-- the finding at vertex u
abbrev pub finding : List ℕ → ℕ → Option Finding
finding lengths u = found_if (eqb (get_or lengths u 0) 0) (NoEdges (vertex_numbered u))

abbrev pub invariant-loop-v : goal.invariant-loop-v
invariant-loop-v l = first_of l.v (finding l.lengths) ≡ None
