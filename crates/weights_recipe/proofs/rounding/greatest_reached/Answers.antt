-- `weights_recipe::rounding::greatest_reached` meets its contract. The two tests of a near number show the invariant: lo is 0 or is reached, and no n from hi to max is. The measure is hi - lo. Assumes nothing.
use Rattle.std.proofs.Common.{◌+◌, ◌-◌, ◌/◌, true, false, sym, ◌∙◌, inr, arith}
use Rattle.weights_recipe.proofs.Search.{is_greatest, misses}
use Rattle.weights_recipe.proofs.rounding.greatest_reached.Goals as goal

pub loop-hi-init : goal.loop-hi-init
loop-hi-init c =
    let lower = c.reached_at-lo.ensures in
    let upper = c.missed_from-hi.ensures in
    (omega (arith, lower.0, upper.0), upper.1, lower.1, upper.2)

pub loop-hi-preserved-then-is_reached : goal.loop-hi-preserved-then-is_reached
loop-hi-preserved-then-is_reached c =
    (omega arith, omega arith, inr (sym c.is_reached.ensures ∙ c.if-is_reached.true), c.loop-hi.invariant.3)

pub loop-hi-preserved : goal.loop-hi-preserved
loop-hi-preserved c =
    let l = c.loop-hi in
    let s = c.args in
    let missed = sym c.is_reached.ensures ∙ c.if-is_reached.false in (
      omega arith,
      omega arith,
      l.invariant.2,
      (λ n a b. misses s.v (l.lo + (l.hi - l.lo) / 2) n s.max (omega arith) a b (omega arith) missed),
    )

pub returns : goal.returns
returns c =
    let l = c.loop-hi in
    let s = c.args in
    sym
    (is_greatest s.v s.max l.lo
    (record { within = omega arith; met = l.invariant.2; last = λ n a b. l.invariant.3 n (omega arith) b }))
