-- `text_input::fields::hex_value` meets its contract. Invariant: v is what the first i digits write, and 16 digits fit a u64. Assumes nothing.
use mathlib.Core.Path.{◌≡◌, sym, ap, ◌∙◌}
use Prim.Native.Nat.{ℕ, ◌+◌, ◌*◌, ◌≤◌}
use native.Mathlib.Omega.{arith}
use lib.ListN.{take, drop, length-drop}
use lib.Seq.{get_or-drop}
use Rattle.text_input.specs.Line.{hex_digit_of, number_written}
use Rattle.text_input.proofs.Runs.{number_more, number-none, hex_small}
use Rattle.text_input.proofs.fields.hex_value.Goals as goal

same : (i n : ℕ) → i ≤ n → n ≤ i → i ≡ n
same i n a b = omega arith

pub loop-i-init : goal.loop-i-init
loop-i-init c = number-none 16 hex_digit_of (drop c.args.at c.args.text.now)

pub overflow_mul-v : goal.overflow_mul-v
overflow_mul-v c = omega (arith, c.loop-i.invariant, hex_small (drop c.args.at c.args.text.now) (c.loop-i.i + 1) c.requires.text_value (omega arith), number_more 16 hex_digit_of (drop c.args.at c.args.text.now) c.loop-i.i (omega (arith, c.requires.at_in_bounds, length-drop c.args.at c.args.text.now)))

pub overflow_add-at : goal.overflow_add-at
overflow_add-at c = omega (arith, c.requires.at_in_bounds, length-drop c.args.at c.args.text.now)

pub bounds-text-at : goal.bounds-text-at
bounds-text-at c = omega (arith, c.requires.at_in_bounds, length-drop c.args.at c.args.text.now)

pub overflow_add-v : goal.overflow_add-v
overflow_add-v c = omega (arith, c.loop-i.invariant, hex_small (drop c.args.at c.args.text.now) (c.loop-i.i + 1) c.requires.text_value (omega arith), number_more 16 hex_digit_of (drop c.args.at c.args.text.now) c.loop-i.i (omega (arith, c.requires.at_in_bounds, length-drop c.args.at c.args.text.now)), c.hex_digit_of.ensures, ap hex_digit_of (get_or-drop c.args.at c.args.text.now c.loop-i.i 0))

pub loop-i-preserved : goal.loop-i-preserved
loop-i-preserved c = (λ k. c.loop-i.invariant k * 16 + (c.hex_digit_of.ensures ∙ ap hex_digit_of (sym (get_or-drop c.args.at c.args.text.now c.loop-i.i 0))) k) ∙ sym (number_more 16 hex_digit_of (drop c.args.at c.args.text.now) c.loop-i.i (omega (arith, c.requires.at_in_bounds, length-drop c.args.at c.args.text.now)))

pub returns : goal.returns
returns c = c.loop-i.invariant ∙ ap (λ (k : ℕ). number_written 16 hex_digit_of 0 (take k (drop c.args.at c.args.text.now))) (same c.loop-i.i 16 (omega arith) (omega arith))
