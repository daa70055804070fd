-- `sanity_verdicts::lists::list_ascends` meets its contract: the numbers passed ascend where all tests so far hold. Assumes nothing.
use Prim.Native.Nat.{ℕ, ◌+◌, ◌≤◌, ◌<◌}
use mathlib.Core.Path.{◌≡◌}
use mathlib.Core.Bool.{true}
use lib.ListN.{get_or}
use Rattle.sanity_verdicts.proofs.lists.list_ascends.Given as goal

abbrev pub invariant-loop-i : goal.invariant-loop-i
invariant-loop-i l = (1 ≤ l.i) × (l.ascends ≡ true → (k : ℕ) → k + 1 < l.i → get_or l.numbers (l.start + k) 0 < get_or l.numbers (l.start + (k + 1)) 0)
