-- What is proved of the crossings that are listed.
use Rattle.std.specs.Prelude.{ℕ, ◌≡◌}
use Rattle.std.proofs.Math.Option.{some}
use Rattle.codes_layers.specs.Accepts.{Buildable}
use Rattle.codes_graphs.specs.Graphs.{built_graph}
use Rattle.engine_walks.specs.Answers.{crossing}

-- Questions at the door, 18: every code that questions 2 to 5 accept has a crossing weight, whatever its edges weigh: 18 is never printed.
abbrev pub EveryCodeCrosses : Type 0
EveryCodeCrosses = (kind d rounds : ℕ) → Buildable kind d rounds → (w : ℕ → ℕ) → (weight : ℕ) × (crossing (built_graph kind d rounds) w ≡ some weight)
