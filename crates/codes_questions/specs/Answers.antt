-- What the calls answer that count the vertices or edges of a code.
use Rattle.std.specs.Prelude.{ℕ, min, max, Result}
use Rattle.columns.specs.declared.refusal.Refusal.{Refusal}
use Rattle.columns_answers.specs.Said.{said, Answered}
use Rattle.codes_layers.specs.Counts.{vertex_num, edge_num}
use Rattle.codes_layers.specs.Accepts.{code_refusal}

-- Six builders, Vertices; Questions at the door, 2 to 5: what `vertex_num` answers.
abbrev pub CountsVertices : (kind d rounds : ℕ) → Result ℕ Refusal → Type 0
CountsVertices kind d rounds r = Answered (said 0 r) (code_refusal kind d rounds 0) (vertex_num kind d rounds) 0

-- Six builders, Edges; Questions at the door, 2 to 5: what `edge_num` answers.
abbrev pub CountsEdges : (kind d rounds : ℕ) → Result ℕ Refusal → Type 0
CountsEdges kind d rounds r = Answered (said 0 r) (code_refusal kind d rounds 0) (edge_num kind d rounds) 0

-- Questions at the door, 3, its bounds: the number of 3 to 4,095 nearest to d.
abbrev pub distance_within : ℕ → ℕ
distance_within d = max 3 (min d 4095)

-- Questions at the door, 4, its bounds: the number of 0 to 4,095 nearest to the rounds.
abbrev pub rounds_within : ℕ → ℕ
rounds_within rounds = min rounds 4095
