-- "Reordering moves boundary, defect, position and neighbour list with the vertex and renames edge ends."
use Rattle.std.specs.Prelude.{ℕ, ◌<◌, ◌≡◌, List, length, get_or}
use Rattle.columns.specs.Places.{position_at}
use Rattle.columns_neighbors.specs.Lists.{neighbors, neighbor_list_at}
use Rattle.reorder_orders.specs.Order.{new_number}
use Rattle.reorder_calls.specs.Columns.{ReorderColumns}
use Rattle.reorder_claims.specs.ReorderCalled.{VerticesReordered}

-- Sampling, syndromes, reordering, paragraph 2, sentence 5: the order list names the old vertex of each new number,
-- and `new_number` is its inverse: each of v vertices has one new number, and each number is that of one vertex.
pub record Renumbers (v : ℕ) (order : List ℕ) : Type 0 where
  pub as_many : length order ≡ v
  pub new_within : (u : ℕ) → u < v → new_number order u < v
  pub old_within : (n : ℕ) → n < v → get_or order n 0 < v
  pub old_of_new : (u : ℕ) → u < v → get_or order (new_number order u) 0 ≡ u
  pub new_of_old : (n : ℕ) → n < v → new_number order (get_or order n 0) ≡ n

-- Sampling, syndromes, reordering, paragraph 2, sentence 5: what belonged to vertex u belongs to vertex n now; its neighbour list has the same edge numbers in the same order.
pub record MovedTo (u n : ℕ) (c₀ c : ReorderColumns) : Type 0 where
  pub boundary : get_or c.boundary n 0 ≡ get_or c₀.boundary u 0
  pub defect : get_or c.defect n 0 ≡ get_or c₀.defect u 0
  pub position : position_at c.pos_i c.pos_j c.pos_t n ≡ position_at c₀.pos_i c₀.pos_j c₀.pos_t u
  pub neighbor_list : neighbor_list_at c.list_lengths c.neighbor_numbers n ≡ neighbor_list_at c₀.list_lengths c₀.neighbor_numbers u

-- Six builders, on new edges, sentence 2: the columns hold the neighbour list of vertex u, by the ends of the edges.
abbrev pub OwnList : (e u : ℕ) → ReorderColumns → Type 0
OwnList e u c = neighbor_list_at c.list_lengths c.neighbor_numbers u ≡ neighbors c.ends_a c.ends_b e u

-- Sampling, syndromes, reordering, paragraph 2, sentence 5: of every accepted `reorder_vertices`.
pub record ReorderingMoves : Type 0 where
  pub numbers : (v e : ℕ) (order : List ℕ) (c₀ c : ReorderColumns) → VerticesReordered v e order c₀ c → Renumbers v order
  -- "moves boundary, defect, position and neighbour list with the vertex"
  pub vertices : (v e : ℕ) (order : List ℕ) (c₀ c : ReorderColumns) → VerticesReordered v e order c₀ c → (u : ℕ) → u < v → MovedTo u (new_number order u) c₀ c
  -- "and renames edge ends."
  pub edge_ends : (v e : ℕ) (order : List ℕ) (c₀ c : ReorderColumns) → VerticesReordered v e order c₀ c → (k : ℕ) → k < e
      → (get_or c.ends_a k 0 ≡ new_number order (get_or c₀.ends_a k 0)) × (get_or c.ends_b k 0 ≡ new_number order (get_or c₀.ends_b k 0))
  -- So a neighbour list that was the vertex's own is so afterwards.
  pub own_lists : (v e : ℕ) (order : List ℕ) (c₀ c : ReorderColumns) → VerticesReordered v e order c₀ c → (u : ℕ) → u < v → OwnList e u c₀ → OwnList e (new_number order u) c
