-- What a reordering keeps: question 7, walks with their weights, the crossing weight, and syndromes, all up to the new numbers.
use Rattle.std.specs.Prelude.{ℕ, ◌<◌, ◌≡◌, ◌↔◌, true, length, take}
use mathlib.Core.List.{List, Memᴰ}
use Rattle.columns.specs.Questions.{all_below}
use Rattle.columns_room.specs.Graph.{CodeGraph, code_graph}
use Rattle.engine_walks.specs.Graph.{Graph, Walk, CrossingWeight}
use Rattle.sampling_calls.specs.Syndrome.{syndrome_of}
use Rattle.reorder_orders.specs.Order.{new_number, renamed}
use Rattle.reorder_calls.specs.Columns.{ReorderColumns, reorder_sound}
use Rattle.reorder_claims.specs.ReorderCalled.{VerticesReordered}

-- Records, on vertices and edges: the graph of v vertices and e edges in the columns, as syndromes read it.
abbrev pub reorder_code : (v e : ℕ) → ReorderColumns → CodeGraph
reorder_code v e c = code_graph v e c.ends_a c.ends_b c.boundary

-- Records, on engine graphs: the same graph, as walks read it.
abbrev pub reorder_graph : (v e : ℕ) → ReorderColumns → Graph
reorder_graph v e c = record { vertices = v; ends_a = take e c.ends_a; ends_b = take e c.ends_b; boundary = take v c.boundary }

-- Sampling, syndromes, reordering, paragraph 2, sentence 5: of every accepted `reorder_vertices`.
pub record ReorderingKeeps : Type 0 where
  -- Questions at the door, 7: counts, ends, boundary and defect bytes are sound, as they were before.
  pub question_7 : (v e : ℕ) (order : List ℕ) (c₀ c : ReorderColumns) → VerticesReordered v e order c₀ c → reorder_sound v e c.ends_a c.ends_b c.boundary c.defect ≡ true
  -- Engine, on walks, sentence 1: a walk is one between the new numbers, along the same edges and so of the same weight, and the other way round.
  pub walks : (v e : ℕ) (order : List ℕ) (c₀ c : ReorderColumns) → VerticesReordered v e order c₀ c → (x y : ℕ) (s : List ℕ) → x < v → y < v
      → Walk (reorder_graph v e c₀) x s y ↔ Walk (reorder_graph v e c) (new_number order x) s (new_number order y)
  -- Engine, Crossing, sentence 1: so the crossing weight is the same, whatever the edges weigh.
  pub crossing_weight : (v e : ℕ) (order : List ℕ) (c₀ c : ReorderColumns) → VerticesReordered v e order c₀ c → (w : ℕ → ℕ) (k : ℕ)
      → CrossingWeight (reorder_graph v e c₀) w k ↔ CrossingWeight (reorder_graph v e c) w k
  -- Paragraph 2, sentence 3: the syndrome of edges that are in range is the translated syndrome, as sets, and as long.
  pub syndromes : (v e : ℕ) (order : List ℕ) (c₀ c : ReorderColumns) → VerticesReordered v e order c₀ c → (edges : List ℕ) → all_below e edges ≡ true
      → (x : ℕ) → Memᴰ x (syndrome_of (reorder_code v e c) edges) ↔ Memᴰ x (renamed order (syndrome_of (reorder_code v e c₀) edges))
  pub as_many_defects : (v e : ℕ) (order : List ℕ) (c₀ c : ReorderColumns) → VerticesReordered v e order c₀ c → (edges : List ℕ) → all_below e edges ≡ true
      → length (syndrome_of (reorder_code v e c) edges) ≡ length (syndrome_of (reorder_code v e c₀) edges)
