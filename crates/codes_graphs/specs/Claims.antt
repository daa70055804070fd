-- What is proved of every code that questions 2 to 5 accept.
use Rattle.std.specs.Prelude.{ℕ, ◌≤◌, ◌<◌, ◌≡◌, true, List, length, get_or, replicate}
use Rattle.std.proofs.Math.Option.{some}
use Rattle.columns.specs.Lists.{over}
use Rattle.columns.specs.Questions.{boundaries_sound, marks_sound, half_weights_sound}
use Rattle.columns_neighbors.specs.Lists.{neighbors}
use Rattle.columns_neighbors.specs.Sound.{graph_sound}
use Rattle.engine_walks.specs.Answers.{crossing}
use Rattle.engine_walks.specs.Claims.{IsCrossing, Potential}
use Rattle.engine_walks.specs.Graph.{Left, Right, Walk, CrossingSet}
use Rattle.codes_writers.specs.Edges.{firsts, seconds, boundaries}
use Rattle.codes_layers.specs.Codes.{edges_of, vertices_of}
use Rattle.codes_layers.specs.Counts.{vertex_num, edge_num}
use Rattle.codes_layers.specs.Accepts.{Buildable}
use Rattle.codes_graphs.specs.Graphs.{built_graph, height}

-- Six builders, on new edges, sentence 2: the neighbour list of a vertex of a built code.
abbrev pub list_of : (kind d rounds v : ℕ) → List ℕ
list_of kind d rounds v = neighbors (firsts (edges_of kind d rounds)) (seconds (edges_of kind d rounds)) (edge_num kind d rounds) v

-- Six builders and Questions at the door, 7: what holds of one built code.
pub record BuiltCode (kind d rounds : ℕ) : Type 0 where
  -- Six builders, Vertices and Edges: the formulas count the lists.
  pub vertices : length (vertices_of kind d rounds) ≡ vertex_num kind d rounds
  pub edges : length (edges_of kind d rounds) ≡ edge_num kind d rounds
  -- Questions at the door, 7, of the built columns, whatever stands past their counts.
  pub graph : (a b : List ℕ) → graph_sound (vertex_num kind d rounds) (edge_num kind d rounds) (over (firsts (edges_of kind d rounds)) a) (over (seconds (edges_of kind d rounds)) b) ≡ true
  pub boundary : (column : List ℕ) → boundaries_sound (vertex_num kind d rounds) (over (boundaries (vertices_of kind d rounds)) column) ≡ true
  pub half_weight_holds : (column : List ℕ) → half_weights_sound (edge_num kind d rounds) (over (replicate (edge_num kind d rounds) 0) column) ≡ true
  pub erasure : (column : List ℕ) → marks_sound (edge_num kind d rounds) (over (replicate (edge_num kind d rounds) 0) column) ≡ true
  pub defect : (column : List ℕ) → marks_sound (vertex_num kind d rounds) (over (replicate (vertex_num kind d rounds) 0) column) ≡ true
  -- The first end of an edge is smaller than the second.
  pub rising : (k : ℕ) → k < edge_num kind d rounds → get_or (firsts (edges_of kind d rounds)) k 0 < get_or (seconds (edges_of kind d rounds)) k 0
  -- Six builders, sanity_check, sentence 3, and on new edges, sentence 2: every vertex has an edge, and no edge stands twice in its list, which ascends.
  pub touched : (v : ℕ) → v < vertex_num kind d rounds → 1 ≤ length (list_of kind d rounds v)
  pub ascending : (v j k : ℕ) → j < k → k < length (list_of kind d rounds v) → get_or (list_of kind d rounds v) j 0 < get_or (list_of kind d rounds v) k 0

-- Six builders and Questions at the door, 7: for every accepted code. The verdict 0 of `sanity_check` is claimed in the crate sanity_claims.
abbrev pub CodesAreSound : Type 0
CodesAreSound = (kind d rounds : ℕ) → Buildable kind d rounds → BuiltCode kind d rounds

-- Demand 3, the clause about d, with every weight 1: grounds for the distance, the crossing weight, and that no crossing set has fewer than d edges.
pub record HasDistance (kind d rounds : ℕ) : Type 0 where
  pub potential : Potential (built_graph kind d rounds) (λ e. 1) d (height kind d)
  pub straight : (x : ℕ) × (y : ℕ) × (s : List ℕ) × Left (built_graph kind d rounds) x × Right (built_graph kind d rounds) y × Walk (built_graph kind d rounds) x s y × (length s ≡ d)
  pub is_crossing : IsCrossing (built_graph kind d rounds) (λ e. 1) d
  pub crossing_weight : crossing (built_graph kind d rounds) (λ e. 1) ≡ some d
  pub fewest : (s : List ℕ) → CrossingSet (built_graph kind d rounds) s → d ≤ length s

-- Demand 3, the clause about d: for every accepted code.
abbrev pub CodesHaveDistance : Type 0
CodesHaveDistance = (kind d rounds : ℕ) → Buildable kind d rounds → HasDistance kind d rounds
