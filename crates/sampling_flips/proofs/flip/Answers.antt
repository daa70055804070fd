-- `sampling_flips::flip` meets its contract: one of the two products is 0, the other the flipped byte. Assumes nothing.
use Prim.Native.Nat.{◌≤◌}
use native.Mathlib.Omega.{arith}
use Rattle.sampling_flips.proofs.Flipping.{bit_within, times_fits, chosen_fits, by_subtraction}
use Rattle.sampling_flips.proofs.flip.Goals as goal

pub overflow_mul-result : goal.overflow_mul-result
overflow_mul-result c = record { fits = times_fits _ _ ((let it : c.inner_bit-inner.result ≤ 1 = omega (arith, c.inner_bit-inner.ensures, bit_within c.args.boundary) in it)) (omega (arith, c.one_minus.ensures)) }

pub overflow_sub-result : goal.overflow_sub-result
overflow_sub-result c = (let it : c.inner_bit-inner.result ≤ 1 = omega (arith, c.inner_bit-inner.ensures, bit_within c.args.boundary) in it)

pub overflow_mul-result-2 : goal.overflow_mul-result-2
overflow_mul-result-2 c = record { fits = times_fits _ _ (omega (arith, (let it : c.inner_bit-inner.result ≤ 1 = omega (arith, c.inner_bit-inner.ensures, bit_within c.args.boundary) in it))) (omega arith) }

pub overflow_add-result : goal.overflow_add-result
overflow_add-result c = record { fits = chosen_fits _ _ _ ((let it : c.inner_bit-inner.result ≤ 1 = omega (arith, c.inner_bit-inner.ensures, bit_within c.args.boundary) in it)) (omega (arith, c.one_minus.ensures)) (omega arith) }

pub returns : goal.returns
returns c = by_subtraction c.args.boundary c.args.defect _ _ c.inner_bit-inner.ensures c.one_minus.ensures
