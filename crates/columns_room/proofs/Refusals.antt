-- What question 6 says where it is met. Assumes nothing.
use mathlib.Core.Path.{◌≡◌}
use mathlib.Core.Bool.{true, ◌&&◌}
use mathlib.Core.List.{List}
use Prim.Native.Nat.{ℕ, ◌*◌, ◌≤◌}
use lib.Dec.{leb}
use lib.ListN.{length}
use borrow.Author.Tests.{leb-true}
use Rattle.columns.proofs.Tests.{and_both}
use Rattle.columns_neighbors.specs.Lists.{sum_to}
use Rattle.columns_room.specs.Room.{two_long, three_long, lists_long}

pub both_long : (n a m b : ℕ) → (leb n a && leb m b) ≡ true → (n ≤ a) × (m ≤ b)
both_long n a m b e = let (p, q) = and_both (leb n a) (leb m b) e in (leb-true n a p, leb-true m b q)

pub two_long_lem : (n a b : ℕ) → two_long n a b ≡ true → (n ≤ a) × (n ≤ b)
unfolding two_long
two_long_lem n a b e = both_long n a n b e

pub three_long_lem : (n a b c : ℕ) → three_long n a b c ≡ true → (n ≤ a) × (n ≤ b) × (n ≤ c)
unfolding three_long
three_long_lem n a b c e = let (p, q) = and_both (leb n a) _ e in let (r, s) = both_long n b n c q in (leb-true n a p, r, s)

pub lists_long_lem : (v e : ℕ) (lengths numbers : List ℕ) → lists_long v e lengths numbers ≡ true → (2 * e ≤ length numbers) × (sum_to v lengths ≤ length numbers)
unfolding lists_long
lists_long_lem v e lengths numbers h = both_long (2 * e) _ (sum_to v lengths) _ h
