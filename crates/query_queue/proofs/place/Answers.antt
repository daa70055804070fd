-- `query_queue::place` meets its contract: a place below n is an inner one, another is the leaf of j - n. Assumes nothing.
use borrow.Author.Rules.{rules}
use mathlib.Core.Path.{sym}
use Rattle.query_queue.proofs.Places.{inner_is, leaf_is}
use Rattle.query_queue.proofs.place.Goals as goal

pub returns-then-j-n : goal.returns-then-j-n
returns-then-j-n c = sym (inner_is _ _ _ _ (search rules))

pub returns : goal.returns
returns c = sym (leaf_is _ _ _ _ (search rules))
