-- `sanity_verdicts::lists::vertices_in` meets its contract. Invariant: no finding at the first v vertices; start is where the list of v starts; no stamp is above v. Assumes nothing.
use mathlib.Core.Path.{◌≡◌}
use mathlib.Core.List.{List}
use Prim.Native.Nat.{ℕ}
use lib.ListN.{length, get_or}
use Rattle.std.specs.Prelude.{Option, None}
use Rattle.sanity_verdicts.specs.declared.Finding.{Finding}
use Rattle.sanity_verdicts.specs.Sanity.{first_of, at_vertex}
use Rattle.columns_neighbors.specs.Lists.{sum_to, neighbor_list_at}
use Rattle.sanity_verdicts.specs.ListSteps.{Below}
use Rattle.sanity_verdicts.proofs.lists.vertices_in.Given as goal

-- the finding at vertex u
abbrev pub finding : List ℕ → List ℕ → ℕ → Option Finding
finding lengths numbers u = at_vertex (neighbor_list_at lengths numbers u) (get_or lengths u 0) u

abbrev pub invariant-loop-v : goal.invariant-loop-v
invariant-loop-v l =
    Below l.v l.mark × (l.start ≡ sum_to l.v l.lengths) × (first_of l.v (finding l.lengths l.numbers) ≡ None) × (length l.mark ≡ length l.initial.mark)
