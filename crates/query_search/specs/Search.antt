-- What a search needs of its columns, and what it leaves in them: the functions below the queries cite it.
use Rattle.std.specs.Prelude.{ℕ, ◌+◌, ◌*◌, ◌<◌, ◌≤◌, ◌≡◌, List, length, get_or, set, replicate}
use Rattle.columns.specs.Limits.{weight_limit, sum_limit}
use Rattle.columns.specs.Lists.{each, over}
use Rattle.columns_neighbors.specs.Lists.{lists}
use Rattle.columns_neighbors.specs.Sound.{SoundGraph}
use Rattle.engine_columns.specs.Records.{Engine}
use Rattle.engine_walks.specs.Graph.{Graph}
use Rattle.engine_walks.specs.Lists.{delta}
use Rattle.engine_walks.specs.Settling.{State, weight_at, settled}
use Rattle.engine_walks.specs.Answers.{only, from_left}
use Rattle.query_relaxing.specs.Ready.{state_of, Ready, end_of}
use Rattle.query_questions.specs.Queries.{graph_in, weights_in}
use Rattle.query_questions.specs.Scratch.{ScratchColumns, SearchAfter}
use Rattle.query_search.specs.declared.Origin.{Origin}
use Rattle.query_search.specs.declared.Origin.TheVariants.{At, Left}

-- Questions at the door, 6 and 7, of columns cut to their counts, as a search needs them.
pub record Searchable (n : ℕ) (a b w numbers ends weight previous node leaf : List ℕ) : Type 0 where
  pub graph : SoundGraph n (length a) a b
  pub same_b : length b ≡ length a
  pub same_w : length w ≡ length a
  pub weights_within : (e : ℕ) → e < length w → get_or w e 0 ≤ weight_limit
  pub numbers_fit : 2 * length a ≤ length numbers
  pub ends_fit : n ≤ length ends
  pub weight_fits : length weight ≡ n
  pub previous_fits : length previous ≡ n
  pub node_fits : n ≤ length node
  pub leaf_fits : length leaf ≡ n

-- Records, on neighbour lists: the lists of all vertices, and where each ends.
pub record ListsBuilt (n : ℕ) (a b numbers₀ numbers ends : List ℕ) : Type 0 where
  pub numbers_are : numbers ≡ over (lists a b (length a) n) numbers₀
  pub ends_are : (v : ℕ) → v < n → get_or ends v 0 ≡ length (lists a b (length a) (v + 1))

-- Engine, Settling, sentence 5: where a search begins: at a vertex that is not the one after which it stops.
abbrev pub Starts : Origin → ℕ → Type 0
Starts (At a stop) n = (a.0 < n) × (stop.0 ≡ a.0 → ⊥)
Starts Left n = Unit {0}

-- Engine, Settling, sentence 3, and Crossing, sentence 1: the status bytes before the first turn; the sources wait.
abbrev pub first_status : Origin → (boundary : List ℕ) (n : ℕ) → List ℕ
first_status (At a stop) boundary n = set (replicate n 0) a.0 1
first_status Left boundary n = each n (λ v. delta (get_or boundary v 0) 1)

-- Engine, Settling, sentence 5: the number after which the search stops; n is that of no vertex.
abbrev pub stop_in : Origin → (n : ℕ) → ℕ
stop_in (At a stop) n = stop.0
stop_in Left n = n

-- Engine, Settling, sentence 3, and Crossing, sentence 1: the state that the search leaves.
abbrev pub state_from : Origin → Graph → (ℕ → ℕ) → State
state_from (At a stop) g w = settled g w (only a.0) (end_of g.vertices stop.0)
state_from Left g w = from_left g w

-- Records, last sentence: a state of n vertices, few enough, whose weights fit.
pub record Settles (n : ℕ) (s : State) : Type 0 where
  pub few : n ≤ 4096
  pub status_fits : length s.status ≡ n
  pub weight_fits : length s.weight ≡ n
  pub previous_fits : length s.previous ≡ n
  pub weights_within : (v : ℕ) → v < n → weight_at s v < sum_limit

-- Engine, Settling: what a search of the engine graph e leaves in scratch, and that the state it settled in fits.
pub record SearchDone (e : Engine) (origin : Origin) (scratch₀ scratch : ScratchColumns) : Type 0 where
  pub scratch_after : SearchAfter (graph_in e) (state_from origin (graph_in e) (weights_in e)) scratch₀ scratch
  pub settles : Settles e.counts.vertices (state_from origin (graph_in e) (weights_in e))

-- Engine, Settling: columns cut to their counts, after a search of the graph g that settled in the state s.
pub record Searched (g : Graph) (s : State) (numbers₀ numbers ends status weight previous node leaf : List ℕ) : Type 0 where
  pub built : ListsBuilt g.vertices g.ends_a g.ends_b numbers₀ numbers ends
  pub state : state_of status weight previous ≡ s
  pub ready : Ready g.vertices s node leaf
