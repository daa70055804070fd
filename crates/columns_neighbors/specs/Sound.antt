-- Question 7 of document 01: columns sound.
use Rattle.std.specs.Prelude.{ℕ, ◌≤◌, ◌<◌, ◌≡◌, Bool, ◌&&◌, List, take, length, get_or, leb}
use Rattle.columns.specs.Limits.{vertex_limit, edge_limit}
use Rattle.columns.specs.Questions.{all_below, weights_sound, vertex_count_sound, edge_count_sound}
use Rattle.columns_pairs.specs.Pairs.{ends_differ, pairs_apart, OnePair}
use Rattle.columns_neighbors.specs.Steps.{InRange}

-- Questions at the door, 7: the columns hold e edges, whose ends are in range, that is below v.
unfoldable pub ends_in_range : (v e : ℕ) (a b : List ℕ) → Bool
ends_in_range v e a b = leb e (length a) && (leb e (length b) && (all_below v (take e a) && all_below v (take e b)))

-- Questions at the door, 7, of the counts and ends of a graph: 1 to 4,096 vertices, 0 to 32,768 edges, ends in range and different, no two edges joining one pair.
unfoldable pub graph_sound : (v e : ℕ) (a b : List ℕ) → Bool
graph_sound v e a b =
    vertex_count_sound v && (edge_count_sound e && (ends_in_range v e a b && (ends_differ a b e && pairs_apart a b e)))

-- Questions at the door, 7, of the first n log entries: each names one of e edges and an earlier weight within the Records.
unfoldable pub log_sound : (e n : ℕ) (edges weights : List ℕ) → Bool
log_sound e n edges weights = all_below e (take n edges) && weights_sound n weights

-- Questions at the door, 7, as facts: counts within their limits, ends that are vertices and differ, and no two edges that join one pair.
pub record SoundGraph (v e : ℕ) (a b : List ℕ) : Type 0 where
  pub some_vertex : 1 ≤ v
  pub few_vertices : v ≤ vertex_limit
  pub few_edges : e ≤ edge_limit
  pub long_a : e ≤ length a
  pub long_b : e ≤ length b
  pub in_a : InRange a e v
  pub in_b : InRange b e v
  pub differ : (k : ℕ) → k < e → get_or a k 0 ≡ get_or b k 0 → ⊥
  pub apart : (j k : ℕ) → j < k → k < e → OnePair a b j k → ⊥
