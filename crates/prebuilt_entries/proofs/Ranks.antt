-- Signed weights by their ranks. Assumes nothing.
use mathlib.Core.Path.{◌≡◌, refl}
use mathlib.Core.Logic.{◌≢◌}
use mathlib.Core.Bool.{Bool, true, false, cond}
use Prim.Native.Nat.{ℕ, suc, ◌+◌, ◌-◌, ◌<◌, ◌≤◌}
use native.Mathlib.Omega.{arith}
use lib.Dec.{T, ltb}
use lib.IntN.{ℤ, pos, negsuc, nat_abs}
use lib.Signed.{mag, lt_z, non_neg}
use borrow.Author.Tests.{ltb-true}
use Rattle.columns.specs.Limits.{table_bound}
use Rattle.prebuilt_entries.specs.Entries.{rank, in_the_middle, entry_by}

pub entry_fits : (hidden : Bool) (own peer x : ℤ) → mag x < table_bound → mag (entry_by hidden own peer x) < table_bound
entry_fits true own peer x f = omega arith
entry_fits false own peer x f = go (in_the_middle own peer x)
  where
    go : (b : Bool) → mag (cond b (negsuc 0) x) < table_bound
    go true = omega arith
    go false = f
