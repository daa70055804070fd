-- `columns_room::sum_within` meets its contract: after i turns the sum is that of the first i lengths. Assumes nothing.
use mathlib.Core.Path.{refl, sym, ap, ◌∙◌}
use Prim.Native.Nat.{ℕ, ◌+◌}
use native.Mathlib.Omega.{arith}
use lib.ListN.{get_or}
use borrow.Author.Rules.{rules}
use borrow.Author.Tests.{le-leb, lt-leb}
use Rattle.columns_neighbors.specs.Lists.{sum_to}
use Rattle.columns_neighbors.proofs.Placing.{sum_more, sum_ascends}
use Rattle.columns_room.proofs.Sums.{sum_end}
use Rattle.columns_room.proofs.sum_within.Goals as goal

pub loop-i-init : goal.loop-i-init
unfolding sum_to
loop-i-init c = record { sum_is = refl; within = search rules }

pub returns-then-limit-sum : goal.returns-then-limit-sum
returns-then-limit-sum c =
    let a = c.args in
    let l = c.loop-i in
    sym (lt-leb (sum_to a.n a.lengths.now) a.limit
    (omega (arith, l.invariant.sum_is, l.invariant.within, sum_more l.i a.lengths.now, sum_ascends (l.i + 1) a.n a.lengths.now (omega arith))))

pub loop-i-preserved : goal.loop-i-preserved
loop-i-preserved c =
    let a = c.args in
    let l = c.loop-i in
    record {
      sum_is = ap (λ (x : ℕ). x + get_or a.lengths.now l.i 0) l.invariant.sum_is ∙ sym (sum_more l.i a.lengths.now);
      within = omega arith;
    }

pub returns : goal.returns
returns c =
    let a = c.args in
    let l = c.loop-i in
    sym (le-leb (sum_to a.n a.lengths.now) a.limit (omega (arith, l.invariant.sum_is, l.invariant.within, sum_end a.n l.i a.lengths.now (omega arith) (omega arith))))
