-- `sanity_pairs::first_same` meets its contract. Invariant: none of the first j edges joins the pair of edge i. Assumes nothing.
use mathlib.Core.Path.{◌≡◌}
use Prim.Native.Nat.{ℕ, ◌<◌}
use Rattle.columns_pairs.specs.Pairs.{low_at, high_at}
use Rattle.sanity_pairs.proofs.first_same.Given as goal

abbrev pub invariant-loop-j : goal.invariant-loop-j
invariant-loop-j l = (m : ℕ) → m < l.j → low_at l.a l.b m ≡ low_at l.a l.b l.i → high_at l.a l.b m ≡ high_at l.a l.b l.i → ⊥
