-- `reorder_vertices`: boundary, defect, position, list length and neighbour list move with the vertex, edge ends are renamed.
use Rattle.std.specs.Prelude.{ℕ, ◌≡◌, Bool, ◌&&◌, List, length, get_or, take, eqb, Float, Result}
use Rattle.columns.specs.Lists.{joined, after}
use Rattle.columns.specs.Questions.{ask, all_below, marks_sound}
use Rattle.columns.specs.Places.{zero_float}
use Rattle.columns.specs.declared.refusal.Refusal.{Refusal}
use Rattle.columns_answers.specs.Said.{said, Answered}
use Rattle.columns_neighbors.specs.Lists.{sum_to, neighbor_list_at}
use Rattle.columns_room.specs.Room.{two_long, three_long, lists_long}
use Rattle.columns_room.specs.Graph.{code_graph, code_sound}
use Rattle.reorder_orders.specs.Order.{none_twice, renamed, moved}

-- Records, on vertices and edges: the columns that a reordering changes; `neighbor_numbers` has the neighbour lists one after another, `scratch` has room for them too.
pub record ReorderColumns : Type 0 where
  pub ends_a : List ℕ
  pub ends_b : List ℕ
  pub boundary : List ℕ
  pub defect : List ℕ
  pub pos_i : List Float
  pub pos_j : List Float
  pub pos_t : List Float
  pub list_lengths : List ℕ
  pub neighbor_numbers : List ℕ
  pub scratch : List ℕ

-- Records, on vertices and edges: these columns together.
abbrev pub reorder_columns : (a b m d : List ℕ) (i j t : List Float) (lengths numbers scratch : List ℕ) → ReorderColumns
reorder_columns a b m d i j t l n s = record {
  ends_a = a;
  ends_b = b;
  boundary = m;
  defect = d;
  pos_i = i;
  pos_j = j;
  pos_t = t;
  list_lengths = l;
  neighbor_numbers = n;
  scratch = s;
}

-- Records, on vertices and edges: likewise, lent or left by reference.
abbrev pub reorder_in : (a b m d : List ℕ) (i j t : List Float) (lengths numbers scratch : List ℕ) → ReorderColumns
reorder_in a b m d i j t l n s = reorder_columns a b m d i j t l n s

-- Sampling, syndromes, reordering, paragraph 2, sentence 5: the neighbour lists in the new order, one after another.
unfoldable pub moved_lists : (order lengths numbers : List ℕ) → List ℕ
moved_lists order lengths numbers = joined (length order) (λ k. neighbor_list_at lengths numbers (get_or order k 0))

-- Questions at the door, 6: ends as long as the edges;
-- boundary bytes, defect bytes, list lengths and positions as long as the vertices; neighbour numbers and their scratch.
unfoldable pub reorder_long : (v e : ℕ) → ReorderColumns → Bool
reorder_long v e c =
    two_long e (length c.ends_a) (length c.ends_b)
    && (three_long v (length c.boundary) (length c.defect) (length c.list_lengths)
    && (three_long v (length c.pos_i) (length c.pos_j) (length c.pos_t)
    && (lists_long v e c.list_lengths c.neighbor_numbers && lists_long v e c.list_lengths c.scratch)))

-- Questions at the door, 7: counts, ends, boundary and defect bytes.
unfoldable pub reorder_sound : (v e : ℕ) (a b m d : List ℕ) → Bool
reorder_sound v e a b m d = code_sound (code_graph v e a b m) && marks_sound v d

-- Questions at the door, 11, 13 and 14, in order: the order list as long as the vertices, its numbers in range, no vertex twice.
unfoldable pub order_refusal : (v : ℕ) (order : List ℕ) → ℕ
order_refusal v order = ask (eqb (length order) v) 11 (ask (all_below v order) 13 (ask (none_twice order) 14 0))

-- Questions at the door, 6, 7, 11, 13 and 14, in order, of `reorder_vertices`.
unfoldable pub reorder_refusal : (v e : ℕ) (order : List ℕ) → ReorderColumns → ℕ
reorder_refusal v e order c =
    ask (reorder_long v e c) 6
    (ask (reorder_sound v e c.ends_a c.ends_b c.boundary c.defect) 7
    (order_refusal v order))

-- Sampling, syndromes, reordering, paragraph 2, sentence 5: the answer, and every column afterwards;
-- after an accepted call the scratch starts with the old neighbour lists.
pub record ReorderedVertices (v e : ℕ) (order : List ℕ) (c₀ : ReorderColumns) (answer : Result (Unit {0}) Refusal) (c : ReorderColumns) : Type 0 where
  pub answers : Answered (said tt answer) (reorder_refusal v e order c₀) tt tt
  pub ends_a_after : c.ends_a ≡ after (reorder_refusal v e order c₀) (renamed order (take e c₀.ends_a)) c₀.ends_a
  pub ends_b_after : c.ends_b ≡ after (reorder_refusal v e order c₀) (renamed order (take e c₀.ends_b)) c₀.ends_b
  pub boundary_after : c.boundary ≡ after (reorder_refusal v e order c₀) (moved order 0 c₀.boundary) c₀.boundary
  pub defect_after : c.defect ≡ after (reorder_refusal v e order c₀) (moved order 0 c₀.defect) c₀.defect
  pub pos_i_after : c.pos_i ≡ after (reorder_refusal v e order c₀) (moved order zero_float c₀.pos_i) c₀.pos_i
  pub pos_j_after : c.pos_j ≡ after (reorder_refusal v e order c₀) (moved order zero_float c₀.pos_j) c₀.pos_j
  pub pos_t_after : c.pos_t ≡ after (reorder_refusal v e order c₀) (moved order zero_float c₀.pos_t) c₀.pos_t
  pub list_lengths_after : c.list_lengths ≡ after (reorder_refusal v e order c₀) (moved order 0 c₀.list_lengths) c₀.list_lengths
  pub neighbor_numbers_after : c.neighbor_numbers ≡ after (reorder_refusal v e order c₀) (moved_lists order c₀.list_lengths c₀.neighbor_numbers) c₀.neighbor_numbers
  pub scratch_after : c.scratch ≡ after (reorder_refusal v e order c₀) (take (sum_to v c₀.list_lengths) c₀.neighbor_numbers) c₀.scratch
