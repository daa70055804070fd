-- Calls of the real functions: two that were accepted, one with its answer. `Learnt` is what a caller of a function learns of a call, made from the function's own contract: lifetimes, the
-- arguments as they were passed, the result, and the parameters at exit.
use Rattle.std.specs.Prelude.{ℕ, List, ℤ, Option, Result, Ok}
use contract.Lifetimes.{Lfts}
use denote.Triple.Clauses.{AtExit}
use borrow.Fn.World.{ArgsD, ResD}
use Rattle.learnt.specs.Learnt.{Reading, Learnt, one_fact}
use Rattle.columns.specs.declared.refusal.Refusal.{Refusal}
use Rattle.engine_columns.specs.Records.{Engine, engine_in}
use Rattle.prebuilt_calls.specs.contracts.boundaries.fill_boundaries as boundaries_contract
use Rattle.prebuilt_calls.specs.contracts.fill_row as row_contract
use Rattle.prebuilt_calls.specs.contracts.nearest.get_boundary_weight as nearest_contract
use Rattle.prebuilt_calls.specs.declared.nearest.BoundaryVertex.{BoundaryVertex}

-- What a caller of each function learns of a call.
abbrev boundaries_reading : (κs : Lfts 17) (a : ArgsD boundaries_contract.signature κs) (r : ResD boundaries_contract.signature κs) (s : AtExit boundaries_contract.ended κs)
    → Reading (λ w. (boundaries_contract.clauses w.𝓛 w.𝓜.mem w.𝓡.returns κs a).ensures tt r s)
boundaries_reading κs a r s = one_fact _

abbrev row_reading : (κs : Lfts 16) (a : ArgsD row_contract.signature κs) (r : ResD row_contract.signature κs) (s : AtExit row_contract.ended κs)
    → Reading (λ w. (row_contract.clauses w.𝓛 w.𝓜.mem w.𝓡.returns κs a).ensures tt r s)
row_reading κs a r s = one_fact _

abbrev nearest_reading : (κs : Lfts 15) (a : ArgsD nearest_contract.signature κs) (r : ResD nearest_contract.signature κs) (s : AtExit nearest_contract.ended κs)
    → Reading (λ w. (nearest_contract.clauses w.𝓛 w.𝓜.mem w.𝓡.returns κs a).ensures tt r s)
nearest_reading κs a r s = one_fact _

-- complete_graph.rs, by `fill_boundaries`: the engine lent, and the columns of boundary weights and boundary vertices as the call left them.
pub data BoundariesFilled : Engine → (weights : List ℤ) (vertices : List ℕ) → Type 0 where
  boundaries_filled : (κs : Lfts 17) (a : ArgsD boundaries_contract.signature κs) (s : AtExit boundaries_contract.ended κs) → Learnt (boundaries_reading κs a (Ok tt) s)
      → BoundariesFilled
      (engine_in a.0 a.1.0.now a.1.1.0.now a.1.1.1.0.now a.1.1.1.1.0.now a.1.1.1.1.1.0.now a.1.1.1.1.1.1.0.now)
      s.1.1.1.1.1.1.1.0.now s.1.1.1.1.1.1.1.1.0.now

-- complete_graph.rs, by `fill_row`: the engine lent, the vertex, the column of boundary weights lent, and the row's column as the call left it.
pub data RowFilled : Engine → (v : ℕ) (weights row : List ℤ) → Type 0 where
  row_filled : (κs : Lfts 16) (a : ArgsD row_contract.signature κs) (s : AtExit row_contract.ended κs) → Learnt (row_reading κs a (Ok tt) s)
      → RowFilled
      (engine_in a.0 a.1.0.now a.1.1.0.now a.1.1.1.0.now a.1.1.1.1.0.now a.1.1.1.1.1.0.now a.1.1.1.1.1.1.0.now)
      a.1.1.1.1.1.1.1.0.0 a.1.1.1.1.1.1.1.1.0.now s.1.1.1.1.1.1.1.1.1.0.now

-- complete_graph.rs, by `get_boundary_weight`: the engine lent, the vertex, and the answer.
pub data BoundaryAsked : Engine → (v : ℕ) → Result (Option BoundaryVertex) Refusal → Type 0 where
  boundary_asked : (κs : Lfts 15) (a : ArgsD nearest_contract.signature κs) (r : Result (Option BoundaryVertex) Refusal) (s : AtExit nearest_contract.ended κs) → Learnt (nearest_reading κs a r s)
      → BoundaryAsked
      (engine_in a.0 a.1.0.now a.1.1.0.now a.1.1.1.0.now a.1.1.1.1.0.now a.1.1.1.1.1.0.now a.1.1.1.1.1.1.0.now)
      a.1.1.1.1.1.1.1.0.0 r
