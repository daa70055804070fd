-- `query_queue::clear` meets its contract. Invariant: the first i nodes and the first i leaves hold NONE, and the lengths are kept. Assumes nothing.
use borrow.Author.Rules.{rules}
use Prim.Native.Nat.{ℕ, ◌<◌}
use native.Mathlib.Omega.{arith}
use lib.ListN.{length-set}
use Rattle.query_queue.specs.Tree.{Same}
use Rattle.query_queue.proofs.Places.{same_more, same_sound}
use Rattle.query_queue.proofs.clear.Goals as goal

pub loop-i-init : goal.loop-i-init
loop-i-init c = (omega arith, (search rules, (search rules, ((λ k l. omega arith), (λ k l. omega arith)))))

pub loop-i-preserved : goal.loop-i-preserved
loop-i-preserved c =
    let l = c in (
      omega arith,
      (
        simp length-set (search rules),
        (
          simp length-set (search rules),
          (same_more l.loop-i.node l.loop-i.i 18446744073709551615 (omega arith) l.loop-i.invariant.1.1.1.0, same_more l.loop-i.leaf l.loop-i.i 18446744073709551615 (omega arith) l.loop-i.invariant.1.1.1.1),
        ),
      ),
    )

pub returns : goal.returns
returns c = let l = c in
    let n : ℕ = l.args.n in
    let all : (k : ℕ) → k < n → k < l.loop-i.i = λ k b. omega arith in
    let inner : Same l.loop-i.node n 18446744073709551615 = λ k b. l.loop-i.invariant.1.1.1.0 k (all k b) in
    let outer : Same l.loop-i.leaf n 18446744073709551615 = λ k b. l.loop-i.invariant.1.1.1.1 k (all k b) in
    record { tree = same_sound _ _ _ _ inner outer; same = outer; node_len_unchanged = l.loop-i.invariant.1.0; leaf_len_unchanged = l.loop-i.invariant.1.1.0 }
