-- `weights_recipe::rounding::near` meets its contract: each arm returns at most max, and the tests bound x as the conversion requires. Assumes nothing.
use Rattle.std.proofs.Common.{T, sym, subst}
use lib.Ieee.{of_bits, neg}
use Rattle.weights_recipe.proofs.rounding.near.Goals as goal

pub truncating_f64_to_u64-n-requires-clause-lower_bound : goal.truncating_f64_to_u64-n-requires-clause-lower_bound
unfolding of_bits neg
truncating_f64_to_u64-n-requires-clause-lower_bound c = subst T (sym c.if-x.true) tt

pub truncating_f64_to_u64-n-requires-clause-upper_bound : goal.truncating_f64_to_u64-n-requires-clause-upper_bound
unfolding of_bits neg
truncating_f64_to_u64-n-requires-clause-upper_bound c = subst T (sym c.if-x-2.true) tt
