-- `text_numbers::power_of_ten` meets its contract. Invariant: `power` is 10 ^ i, and i is at most k, so that the product fits a u32. Assumes nothing.
use mathlib.Core.Path.{◌≡◌, refl, sym, ap, ◌∙◌}
use Prim.Native.Nat.{ℕ, ◌*◌, ◌^◌, ◌≤◌}
use native.Mathlib.Nat.{pow-suc, pow-le-pow_right, zero-lt-suc}
use native.Mathlib.Numerals.{add-one}
use native.Mathlib.Omega.{arith}
use Rattle.text_numbers.proofs.power_of_ten.Goals as goal

small : (i : ℕ) → i ≤ 8 → 10 ^ i ≤ 100000000
small i h = pow-le-pow_right {n = 10} (zero-lt-suc 9) {i = i} {j = 8} h

same : (i k : ℕ) → i ≤ k → k ≤ i → i ≡ k
same i k a b = omega arith

pub loop-i-init : goal.loop-i-init
loop-i-init c = (omega arith, refl)

pub overflow_mul-power : goal.overflow_mul-power
overflow_mul-power c = omega (arith, c.loop-i.invariant.1, small c.loop-i.i (omega (arith, c.requires)))

pub loop-i-preserved : goal.loop-i-preserved
loop-i-preserved c = (omega arith, ap (λ (n : ℕ). n * 10) c.loop-i.invariant.1 ∙ sym (pow-suc 10 c.loop-i.i) ∙ ap (λ (n : ℕ). 10 ^ n) (sym (add-one c.loop-i.i)))

pub returns : goal.returns
returns c = c.loop-i.invariant.1 ∙ ap (λ (n : ℕ). 10 ^ n) (same c.loop-i.i c.args.k (omega arith) (omega arith))
