-- The scratch columns of a query, and what it may leave in them.
use Rattle.std.specs.Prelude.{ℕ, ◌+◌, ◌*◌, ◌≡◌, Bool, true, false, ◌&&◌, ◌||◌, List, length, drop, eqb, leb}
use Rattle.columns.specs.Lists.{each, over}
use Rattle.query_queue.specs.Tree.{Tree}
use Rattle.columns_neighbors.specs.Lists.{lists}
use Rattle.engine_walks.specs.Graph.{Graph, edges}
use Rattle.engine_walks.specs.Settling.{State, status_at, weight_at}
use Rattle.query_relaxing.specs.Ready.{key_of}
use Rattle.engine_columns.specs.declared.EngineCounts.{EngineCounts}

-- Engine, Crossing, last sentence: the scratch columns of a query.
pub record ScratchColumns : Type 0 where
  pub neighbor_numbers : List ℕ
  pub list_ends : List ℕ
  pub status : List ℕ
  pub weight : List ℕ
  pub previous : List ℕ
  pub node : List ℕ
  pub leaf : List ℕ

-- Engine, Crossing, last sentence: these columns together.
abbrev pub scratch_of : (neighbor_numbers list_ends status weight previous node leaf : List ℕ) → ScratchColumns
scratch_of neighbor_numbers list_ends status weight previous node leaf =
    record { neighbor_numbers = neighbor_numbers; list_ends = list_ends; status = status; weight = weight; previous = previous; node = node; leaf = leaf }

-- Engine, Crossing, last sentence: likewise, of columns lent or left by reference.
abbrev pub scratch_in : (neighbor_numbers list_ends status weight previous node leaf : List ℕ) → ScratchColumns
scratch_in neighbor_numbers list_ends status weight previous node leaf = scratch_of neighbor_numbers list_ends status weight previous node leaf

-- Questions at the door, 6: the lengths of the scratch columns.
pub record ScratchLengths : Type 0 where
  pub neighbor_numbers : ℕ
  pub list_ends : ℕ
  pub status : ℕ
  pub weight : ℕ
  pub previous : ℕ
  pub node : ℕ
  pub leaf : ℕ

-- Questions at the door, 6: the lengths of the columns lent.
abbrev pub scratch_lengths : ScratchColumns → ScratchLengths
scratch_lengths s = record {
  neighbor_numbers = length s.neighbor_numbers;
  list_ends = length s.list_ends;
  status = length s.status;
  weight = length s.weight;
  previous = length s.previous;
  node = length s.node;
  leaf = length s.leaf;
}

-- Questions at the door, 6, of scratch: each column as long as the vertices, neighbour numbers twice the edges.
unfoldable pub scratch_long : EngineCounts → ScratchLengths → Bool
scratch_long c l =
    leb (2 * c.edges) l.neighbor_numbers
    && (leb c.vertices l.list_ends
    && (leb c.vertices l.status
    && (leb c.vertices l.weight && (leb c.vertices l.previous && (leb c.vertices l.node && leb c.vertices l.leaf)))))

-- Questions at the door, 6, of the scratch columns lent.
abbrev pub scratch_fits : EngineCounts → ScratchColumns → Bool
scratch_fits c s = scratch_long c (scratch_lengths s)

-- Engine, Crossing, last sentence: scratch is free after success and after 17 and 18.
abbrev pub is_free : (number : ℕ) → Bool
is_free n = eqb n 0 || (eqb n 17 || eqb n 18)

-- Engine, Crossing, last sentence: what holds of scratch after a search of the graph g that settled in the state s. The first places hold: the neighbour lists, one
-- after another, and where each ends; the state's columns; the keys of the vertices that wait, in a tree of least keys. The places past the vertices, and past the
-- lists, which are twice the edges, are as they were.
pub record SearchAfter (g : Graph) (s : State) (scratch₀ scratch : ScratchColumns) : Type 0 where
  pub neighbor_numbers_after : scratch.neighbor_numbers ≡ over (lists g.ends_a g.ends_b (edges g) g.vertices) scratch₀.neighbor_numbers
  pub list_ends_after : scratch.list_ends ≡ over (each g.vertices (λ v. length (lists g.ends_a g.ends_b (edges g) (v + 1)))) scratch₀.list_ends
  pub status_after : scratch.status ≡ over s.status scratch₀.status
  pub weight_after : scratch.weight ≡ over s.weight scratch₀.weight
  pub previous_after : scratch.previous ≡ over s.previous scratch₀.previous
  pub leaf_after : scratch.leaf ≡ over (each g.vertices (λ v. key_of (status_at s v) (weight_at s v) v)) scratch₀.leaf
  pub node_past : drop g.vertices scratch.node ≡ drop g.vertices scratch₀.node
  pub node_tree : Tree scratch.node scratch.leaf g.vertices

-- Engine, Crossing, last sentence: scratch after an answer with this number: where it is free, what a search leaves; else as it was.
pub record ScratchAfter (number : ℕ) (g : Graph) (s : State) (scratch₀ scratch : ScratchColumns) : Type 0 where
  pub free : is_free number ≡ true → SearchAfter g s scratch₀ scratch
  pub kept : is_free number ≡ false → scratch ≡ scratch₀
