-- `query_queue::least` meets its contract: place 1 holds the least of all leaves, since each inner place holds the lesser of its children. Assumes nothing.
use borrow.Author.Rules.{rules}
use Prim.Native.Nat.{ℕ}
use mathlib.Core.Path.{sym, subst}
use Rattle.query_queue.specs.Tree.{Least}
use Rattle.query_queue.proofs.Places.{root_least}
use Rattle.query_queue.proofs.least.Goals as goal

pub returns : goal.returns
returns c = subst (λ (x : ℕ). Least c.args.leaf.now c.args.n x) (sym c.place.ensures) (root_least c.args.node.now c.args.leaf.now c.args.n (search rules) c.requires.fact_4)
