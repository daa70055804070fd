-- `query_relaxing::tie_rule` meets its contract: the definition has the same cases, by the weights, then the differences, then the previous. Assumes nothing.
use mathlib.Core.Path.{◌≡◌, sym}
use native.Mathlib.Omega.{arith}
use Rattle.engine_walks.proofs.TurnCases.{changes-lighter, changes-heavier, changes-nearer, changes-farther, changes-equally-near}
use Rattle.query_relaxing.proofs.tie_rule.Goals as goal

pub returns-then-k-w : goal.returns-then-k-w
returns-then-k-w c = let s = c.args in sym (changes-lighter s.u.0 s.k s.q.0 s.w s.p.0 c.if-k-w.true)

pub returns-then-w-k : goal.returns-then-w-k
returns-then-w-k c = let s = c.args in sym (changes-heavier s.u.0 s.k s.q.0 s.w s.p.0 c.if-w-k.true)

pub returns-then-new-old : goal.returns-then-new-old
returns-then-new-old c =
    let s = c.args in
    let e : s.k ≡ s.w = omega arith in
    sym (changes-nearer s.u.0 s.k s.q.0 s.w s.p.0 e (omega (arith, c.difference-new.ensures, c.difference-old.ensures)))

pub returns-then-old-new : goal.returns-then-old-new
returns-then-old-new c =
    let s = c.args in
    let e : s.k ≡ s.w = omega arith in
    sym (changes-farther s.u.0 s.k s.q.0 s.w s.p.0 e (omega (arith, c.difference-new.ensures, c.difference-old.ensures)))

pub returns : goal.returns
returns c =
    let s = c.args in
    let e : s.k ≡ s.w = omega arith in
    sym (changes-equally-near s.u.0 s.k s.q.0 s.w s.p.0 e (omega (arith, c.difference-new.ensures, c.difference-old.ensures)))
