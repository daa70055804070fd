-- `weights_calls::larger_weight` meets its contract: each arm returns what `cond` picks where w > m is as the arm's test found it. Assumes nothing.
use mathlib.Core.Path.{sym, ap}
use mathlib.Core.Bool.{Bool, cond}
use Rattle.weights_calls.proofs.larger_weight.Goals as goal

pub returns-then-w-m : goal.returns-then-w-m
returns-then-w-m c = let s = c.args in ap (λ (b : Bool). cond b s.w s.m) (sym c.if-w-m.true)

pub returns-else-w-m : goal.returns-else-w-m
returns-else-w-m c = let s = c.args in ap (λ (b : Bool). cond b s.w s.m) (sym c.if-w-m.false)
