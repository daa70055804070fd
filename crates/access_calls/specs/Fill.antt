-- What fill_vertices asks and leaves.
use Rattle.std.specs.Prelude.{ℕ, ◌≡◌, Bool, ◌&&◌, List, length, replicate, Float, Result}
use Rattle.columns.specs.Lists.{after}
use Rattle.columns.specs.Questions.{ask}
use Rattle.columns_answers.specs.Said.{said, Answered}
use Rattle.columns.specs.Places.{zero_float}
use Rattle.columns.specs.declared.refusal.Refusal.{Refusal}
use Rattle.columns_room.specs.Room.{three_long, edge_columns_long}
use Rattle.columns_neighbors.specs.Lists.{lists, degrees}
use Rattle.columns_neighbors.specs.Sound.{graph_sound}

-- Records, on vertices and on neighbour lists: the vertex columns and the neighbour numbers.
pub record Vertices : Type 0 where
  pub pos_i : List Float
  pub pos_j : List Float
  pub pos_t : List Float
  pub boundary : List ℕ
  pub defect : List ℕ
  pub list_lengths : List ℕ
  pub neighbor_numbers : List ℕ

-- Records, on vertices and on neighbour lists: these columns together.
abbrev pub vertices : List Float → List Float → List Float → List ℕ → List ℕ → List ℕ → List ℕ → Vertices
vertices i j t boundary defect lengths numbers =
    record { pos_i = i; pos_j = j; pos_t = t; boundary = boundary; defect = defect; list_lengths = lengths; neighbor_numbers = numbers }

-- Records, on vertices and on neighbour lists: likewise, lent or left by reference.
abbrev pub vertices_in : (i j t : List Float) (boundary defect lengths numbers : List ℕ) → Vertices
vertices_in i j t boundary defect lengths numbers = vertices i j t boundary defect lengths numbers

-- Questions at the door, 6: vertex columns as long as the vertices.
unfoldable pub vertex_columns_long : ℕ → Vertices → Bool
vertex_columns_long v c =
    three_long v (length c.pos_i) (length c.pos_j) (length c.pos_t) && three_long v (length c.boundary) (length c.defect) (length c.list_lengths)

-- Questions at the door, 6 and 7, in order, of `fill_vertices`; the vertex columns are only written, so 7 asks the counts and the ends.
abbrev pub fill_refusal : (v e : ℕ) (a b : List ℕ) → Vertices → ℕ
fill_refusal v e a b c = ask (vertex_columns_long v c && edge_columns_long e a b c.neighbor_numbers) 6 (ask (graph_sound v e a b) 7 0)

-- Taken over, the trait `ExampleCode`; Six builders, on new edges:
-- new vertices at position 0, inner, without defect, and their neighbour lists; the answer, and each column afterwards.
pub record FilledVertices (v e : ℕ) (a b : List ℕ) (c₀ c : Vertices) (answer : Result (Unit {0}) Refusal) : Type 0 where
  pub answers : Answered (said tt answer) (fill_refusal v e a b c₀) tt tt
  pub pos_i_after : c.pos_i ≡ after (fill_refusal v e a b c₀) (replicate v zero_float) c₀.pos_i
  pub pos_j_after : c.pos_j ≡ after (fill_refusal v e a b c₀) (replicate v zero_float) c₀.pos_j
  pub pos_t_after : c.pos_t ≡ after (fill_refusal v e a b c₀) (replicate v zero_float) c₀.pos_t
  pub boundary_after : c.boundary ≡ after (fill_refusal v e a b c₀) (replicate v 0) c₀.boundary
  pub defect_after : c.defect ≡ after (fill_refusal v e a b c₀) (replicate v 0) c₀.defect
  pub list_lengths_after : c.list_lengths ≡ after (fill_refusal v e a b c₀) (degrees a b e v) c₀.list_lengths
  pub neighbor_numbers_after : c.neighbor_numbers ≡ after (fill_refusal v e a b c₀) (lists a b e v) c₀.neighbor_numbers
