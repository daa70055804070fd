-- `query_queue::raise` meets its contract. Invariant: only place i may not hold the lesser of its children. Assumes nothing.
use borrow.Author.Rules.{rules}
use Prim.Native.Nat.{◌<◌, ◌+◌, ◌*◌, min}
use mathlib.Core.Path.{◌≡◌, ◌∙◌}
use native.Mathlib.Omega.{arith}
use lib.ListN.{length, length-set}
use Rattle.query_queue.specs.Tree.{place_of}
use Rattle.query_queue.proofs.Places.{node_put, none_stale}
use Rattle.query_queue.proofs.raise.Goals as goal

pub returns-then-node-i : goal.returns-then-node-i
returns-then-node-i c = let l = c.loop-i in
    let made : c.min-key.result ≡ min (place_of l.node _ _ (2 * l.i)) (place_of l.node _ _ (2 * l.i + 1)) =
    c.min-key.ensures ∙ (λ j. min (c.place-a.ensures j) (c.place-b.ensures j)) in
    record { tree = none_stale l.node _ _ l.i l.invariant.0 (c.if-node-i.true ∙ made) l.invariant.1.1; node_len_unchanged = l.invariant.1.0 }

pub loop-i-preserved : goal.loop-i-preserved
loop-i-preserved c =
    let l = c.loop-i in
    let made : c.min-key.result ≡ min (place_of l.node _ _ (2 * l.i)) (place_of l.node _ _ (2 * l.i + 1)) =
    c.min-key.ensures ∙ (λ j. min (c.place-a.ensures j) (c.place-b.ensures j)) in
    let inside : l.i < length l.node = omega arith in
    (omega arith, (simp length-set (search rules), node_put _ _ _ _ _ (omega arith) (omega arith) inside made l.invariant.1.1))

pub returns : goal.returns
returns c = record { tree = (λ k p l. c.loop-i.invariant.1.1 k p l (λ e. omega arith)); node_len_unchanged = c.loop-i.invariant.1.0 }
