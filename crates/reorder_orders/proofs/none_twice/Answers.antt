-- `reorder_orders::none_twice` meets its contract: the array holds 0 alone and has a place for each number. Assumes nothing.
use Prim.Native.Nat.{ℕ}
use native.Mathlib.Omega.{arith}
use lib.ListN.{length-replicate}
use Rattle.columns_pairs.proofs.PairTests.{zeros_at}
use Rattle.reorder_orders.proofs.none_twice.Goals as goal

pub fresh_in-requires : goal.fresh_in-requires
fresh_in-requires c = ((λ i h. omega (arith, c.requires i h, length-replicate {A = ℕ} 4096 0)), zeros_at 4096)
