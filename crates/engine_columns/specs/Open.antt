-- What open answers and leaves.
use Rattle.std.specs.Prelude.{ℕ, ◌≡◌, ◌&&◌, List, take, Result}
use Rattle.columns.specs.Lists.{after}
use Rattle.columns.specs.Questions.{ask}
use Rattle.columns.specs.declared.refusal.Refusal.{Refusal}
use Rattle.columns_answers.specs.Said.{said, Answered}
use Rattle.engine_columns.specs.declared.EngineCounts.{EngineCounts}
use Rattle.engine_columns.specs.Records.{counts, no_counts}
use Rattle.engine_columns.specs.Questions.{columns_long, columns_sound}

-- Records, on engine graphs: the columns of a graph without its log.
pub record GraphColumns : Type 0 where
  pub ends_a : List ℕ
  pub ends_b : List ℕ
  pub weights : List ℕ
  pub boundary : List ℕ

-- Records, on engine graphs: the four columns together.
abbrev pub graph_columns : List ℕ → List ℕ → List ℕ → List ℕ → GraphColumns
graph_columns a b w m = record { ends_a = a; ends_b = b; weights = w; boundary = m }

-- Questions at the door, of open, the first that is not met: 6 of what is handed over and of the columns lent, 7 of what is handed over; 0 where both are met.
abbrev pub open_refusal : (v e : ℕ) → GraphColumns → GraphColumns → ℕ
open_refusal v e handed lent =
    ask (columns_long v e handed.ends_a handed.ends_b handed.weights handed.boundary && columns_long v e lent.ends_a lent.ends_b lent.weights lent.boundary) 6
    (ask (columns_sound v e handed.ends_a handed.ends_b handed.weights handed.boundary) 7 0)

-- Engine, Open: the answer, and every column: an accepted open copies, and the log is empty.
pub record Opened (v e : ℕ) (handed lent₀ : GraphColumns) (answer : Result EngineCounts Refusal) (lent : GraphColumns) : Type 0 where
  pub answers : Answered (said no_counts answer) (open_refusal v e handed lent₀) (counts v e 0) no_counts
  pub ends_a_after : lent.ends_a ≡ after (open_refusal v e handed lent₀) (take e handed.ends_a) lent₀.ends_a
  pub ends_b_after : lent.ends_b ≡ after (open_refusal v e handed lent₀) (take e handed.ends_b) lent₀.ends_b
  pub weights_after : lent.weights ≡ after (open_refusal v e handed lent₀) (take e handed.weights) lent₀.weights
  pub boundary_after : lent.boundary ≡ after (open_refusal v e handed lent₀) (take v handed.boundary) lent₀.boundary
