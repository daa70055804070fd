-- The engine graph that a query reads, and its questions 6, 7 and 13.
use Rattle.std.specs.Prelude.{ℕ, Bool, ◌&&◌, take, get_or}
use Rattle.columns.specs.Questions.{ask}
use Rattle.engine_columns.specs.Records.{Engine}
use Rattle.engine_columns.specs.Questions.{engine_long, engine_sound}
use Rattle.engine_walks.specs.Graph.{Graph}

-- Records, on engine graphs: the graph in the columns, without the places past the counts.
abbrev pub graph_in : Engine → Graph
graph_in e = record {
  vertices = e.counts.vertices;
  ends_a = take e.counts.edges e.ends_a;
  ends_b = take e.counts.edges e.ends_b;
  boundary = take e.counts.vertices e.boundary;
}

-- Records, on engine graphs: the weights in force.
abbrev pub weights_in : Engine → ℕ → ℕ
weights_in e k = get_or (take e.counts.edges e.weights) k 0

-- Questions at the door, 6, 7 and 13, in order, of a query, then its later questions: `fits` says whether output and scratch columns are long enough,
-- `inRange` whether the numbers handed over are in range.
abbrev pub query_refusal : Engine → (fits in_range : Bool) (next : ℕ) → ℕ
query_refusal e fits in_range next = ask (engine_long 0 e && fits) 6 (ask (engine_sound e) 7 (ask in_range 13 next))
