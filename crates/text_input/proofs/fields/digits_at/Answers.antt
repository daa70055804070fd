-- `text_input::fields::digits_at` meets its contract. Invariant: the digits from `at` on are n more than those from at + n on. Assumes nothing.
use mathlib.Core.Path.{sym, ◌∙◌}
use native.Mathlib.Omega.{arith}
use lib.ListN.{drop, length-drop}
use Rattle.text_input.proofs.Runs.{digits_within, seen_none, seen_next, seen-stop, seen_end}
use Rattle.text_input.proofs.fields.digits_at.Goals as goal

pub loop-n-init : goal.loop-n-init
loop-n-init c = seen_none c.args.text.now c.args.at 0

pub returns-then-not-is_digit : goal.returns-then-not-is_digit
returns-then-not-is_digit c = (seen-stop c.args.text.now c.args.at c.loop-n.n (omega arith) (sym c.is_digit.ensures ∙ c.if-not-is_digit.true) c.loop-n.invariant, omega arith)

pub loop-n-preserved : goal.loop-n-preserved
loop-n-preserved c = seen_next c.args.text.now c.args.at c.loop-n.n (omega arith) (sym c.is_digit.ensures ∙ c.if-not-is_digit.false) c.loop-n.invariant

pub returns : goal.returns
returns c =
    let e = seen_end c.args.text.now c.args.at c.loop-n.n (omega arith) c.loop-n.invariant in
    (omega (arith, e), omega (arith, e, digits_within (drop c.args.at c.args.text.now), length-drop c.args.at c.args.text.now))
