-- Settling over columns: the state, the keys of the vertices that wait, and the neighbour lists. Of a public call, only what it promises of scratch needs this.
use Rattle.std.specs.Prelude.{ℕ, zero, suc, ◌+◌, ◌*◌, ◌<◌, ◌≤◌, ◌≡◌, ◌⊎◌, Bool, true, false, cond, List, length, get_or, take, eqb, ltb}
use Rattle.std.proofs.Math.Option.{Option, some, none}
use Rattle.columns.specs.Limits.{weight_limit, sum_limit}
use Rattle.columns.specs.Lists.{each}
use Rattle.query_queue.specs.Tree.{Tree}
use Rattle.query_queue.specs.Tree as Q
use Rattle.columns_neighbors.specs.Lists.{lists}
use Rattle.engine_walks.specs.Graph.{Graph}
use Rattle.engine_walks.specs.Settling.{State, status_at, weight_at}

-- Records, on engine graphs: the graph of columns of ends that hold its edges alone.
abbrev pub graph_of : ℕ → List ℕ → List ℕ → List ℕ → Graph
graph_of n a b m = record { vertices = n; ends_a = a; ends_b = b; boundary = m }

-- Records, on engine graphs: the weight of each edge, from a column.
abbrev pub weighs : List ℕ → ℕ → ℕ
weighs column e = get_or column e 0

-- Engine, Settling: the state in the columns of status bytes, weights and previous vertices.
abbrev pub state_of : List ℕ → List ℕ → List ℕ → State
state_of status weight previous = record { status = status; weight = weight; previous = previous }

-- Engine, Settling, sentence 1: the key of vertex v: weight first, then number, so that the least key is that of the vertex to take; none where v does not wait.
abbrev pub key_of : (status weight v : ℕ) → ℕ
key_of status weight v = cond (eqb status 1) (weight * 4096 + v) Q.no_key

-- Engine, Settling, sentence 4: whether an offer is taken up, by the status of the vertex.
abbrev pub takes_up : ℕ → Bool → Bool
takes_up zero change = true
takes_up (suc zero) change = change
takes_up (suc (suc n)) change = false

-- Engine, Settling: the columns hold a state of n vertices and the keys of those that wait, in a tree.
pub record Ready (n : ℕ) (s : State) (node leaf : List ℕ) : Type 0 where
  pub few : n ≤ 4096
  pub status_fits : length s.status ≡ n
  pub weight_fits : length s.weight ≡ n
  pub previous_fits : length s.previous ≡ n
  pub node_fits : n ≤ length node
  pub leaf_fits : length leaf ≡ n
  pub tree : Tree node leaf n
  pub keys : (v : ℕ) → v < n → get_or leaf v 0 ≡ key_of (status_at s v) (weight_at s v) v
  pub weights_within : (v : ℕ) → v < n → weight_at s v < sum_limit

-- Records, on neighbour lists; Questions at the door, 7: the graph's columns hold edges between
-- n vertices whose ends differ, and the neighbour lists with the place where each ends.
pub record Listed (n : ℕ) (a b w numbers ends : List ℕ) : Type 0 where
  pub same_b : length b ≡ length a
  pub same_w : length w ≡ length a
  pub in_a : (e : ℕ) → e < length a → get_or a e 0 < n
  pub in_b : (e : ℕ) → e < length a → get_or b e 0 < n
  pub differ : (e : ℕ) → e < length a → get_or a e 0 ≡ get_or b e 0 → ⊥
  pub few_edges : length a ≤ 32768
  pub ends_fit : n ≤ length ends
  pub numbers_fit : 2 * length a ≤ length numbers
  pub numbers_are : take (length (lists a b (length a) n)) numbers ≡ lists a b (length a) n
  pub ends_are : (u : ℕ) → u < n → get_or ends u 0 ≡ length (lists a b (length a) (u + 1))

-- Engine, Settling, sentence 4: what the edges at the places from `from` to `to` of the lists are to vertex v, which is taken with weight W.
pub record Along (n : ℕ) (a b w numbers : List ℕ) (from to v W : ℕ) : Type 0 where
  pub same_b : length b ≡ length a
  pub same_w : length w ≡ length a
  pub in_a : (e : ℕ) → e < length a → get_or a e 0 < n
  pub in_b : (e : ℕ) → e < length a → get_or b e 0 < n
  pub ordered : from ≤ to
  pub inside : to ≤ length numbers
  pub edge : (i : ℕ) → from ≤ i → i < to → get_or numbers i 0 < length a
  pub at_v : (i : ℕ) → from ≤ i → i < to → (get_or a (get_or numbers i 0) 0 ≡ v) ⊎ (get_or b (get_or numbers i 0) 0 ≡ v)
  pub weights_within : (e : ℕ) → e < length a → W + get_or w e 0 < sum_limit

-- Records, last sentence: what every vertex that waits may offer fits.
abbrev pub Offers : (s : State) (w : List ℕ) → Type 0
Offers s w = (v e : ℕ) → status_at s v ≡ 1 → e < length w → weight_at s v + get_or w e 0 < sum_limit

-- Engine, Settling, sentence 3: the vertices that wait at first are the sources.
abbrev pub sources : List ℕ → ℕ → Bool
sources status v = eqb (get_or status v 0) 1

-- Engine, Settling, sentence 5: the vertex after which settling stops; a number that is no vertex stops nothing.
abbrev pub end_of : (n stop : ℕ) → Option ℕ
end_of n stop = cond (ltb stop n) (some stop) none

-- Records, on neighbour lists: where the list of vertex v starts, from where the lists end.
abbrev pub start_in : List ℕ → ℕ → ℕ
start_in ends zero = 0
start_in ends (suc v) = get_or ends v 0

-- Engine, Settling, sentence 3: the state before the first turn: status bytes 0 and 1, every
-- weight 0, every vertex its own previous; weights within the limit; `stop` is no source.
pub record Begun (status weight previous w : List ℕ) (stop : ℕ) : Type 0 where
  pub bytes : (v : ℕ) → get_or status v 0 ≤ 1
  pub no_weight : weight ≡ each (length status) (λ v. 0)
  pub own_previous : previous ≡ each (length status) (λ v. v)
  pub weights_within : (e : ℕ) → e < length w → get_or w e 0 ≤ weight_limit
  pub no_source : get_or status stop 0 ≡ 1 → ⊥

-- Engine, Settling, sentence 3: the first i leaves hold the keys of the vertices that wait with weight 0, the others none.
abbrev pub Keyed : (status : List ℕ) (i : ℕ) (leaf : List ℕ) → Type 0
Keyed status i leaf = (v : ℕ) → v < length status → get_or leaf v 0 ≡ cond (ltb v i) (key_of (get_or status v 0) 0 v) Q.no_key
