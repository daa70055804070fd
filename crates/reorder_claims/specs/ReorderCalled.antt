-- Calls of `reorder_vertices` that were accepted. `Learnt` is what a caller of a function learns of a call, made from the function's own contract: lifetimes, the
-- arguments as they were passed, the result, and the parameters at exit. The columns lent are any: no call needs to have made them.
use Rattle.std.specs.Prelude.{ℕ, List, Ok}
use contract.Lifetimes.{Lfts}
use denote.Triple.Clauses.{AtExit}
use borrow.Fn.World.{ArgsD, ResD}
use Rattle.learnt.specs.Learnt.{Reading, Learnt, one_fact}
use Rattle.reorder_calls.specs.Columns.{ReorderColumns, reorder_in}
use Rattle.reorder_calls.specs.contracts.reorder_vertices as reorder_contract

-- What a caller learns of a call.
abbrev reorder_reading : (κs : Lfts 11) (a : ArgsD reorder_contract.signature κs) (r : ResD reorder_contract.signature κs) (s : AtExit reorder_contract.ended κs)
    → Reading (λ w. (reorder_contract.clauses w.𝓛 w.𝓜.mem w.𝓡.returns κs a).ensures tt r s)
reorder_reading κs a r s = one_fact _

-- Sampling, syndromes, reordering, paragraph 2, sentence 5: an accepted `reorder_vertices`: the counts, the order list, and the columns before and after.
pub data VerticesReordered : (v e : ℕ) (order : List ℕ) (c₀ c : ReorderColumns) → Type 0 where
  vertices_reordered : (κs : Lfts 11) (a : ArgsD reorder_contract.signature κs) (s : AtExit reorder_contract.ended κs) → Learnt (reorder_reading κs a (Ok tt) s)
      → VerticesReordered a.0 a.1.0 a.1.1.0.now
      (reorder_in a.1.1.1.0.now a.1.1.1.1.0.now a.1.1.1.1.1.0.now a.1.1.1.1.1.1.0.now a.1.1.1.1.1.1.1.0.now a.1.1.1.1.1.1.1.1.0.now a.1.1.1.1.1.1.1.1.1.0.now a.1.1.1.1.1.1.1.1.1.1.0.now a.1.1.1.1.1.1.1.1.1.1.1.0.now a.1.1.1.1.1.1.1.1.1.1.1.1.0.now)
      (reorder_in s.1.1.1.0.now s.1.1.1.1.0.now s.1.1.1.1.1.0.now s.1.1.1.1.1.1.0.now s.1.1.1.1.1.1.1.0.now s.1.1.1.1.1.1.1.1.0.now s.1.1.1.1.1.1.1.1.1.0.now s.1.1.1.1.1.1.1.1.1.1.0.now s.1.1.1.1.1.1.1.1.1.1.1.0.now s.1.1.1.1.1.1.1.1.1.1.1.1.0.now)
