-- The columns of a code, as document 01's "Records" have them, and question 6 about them.
use Rattle.std.specs.Prelude.{ℕ, min, ◌≡◌, List, length, Float}
use Rattle.columns.specs.Lists.{after}
unfoldable pub use Rattle.columns_room.specs.Room.{long_enough}

-- Records, on vertices, edges and neighbour lists: the columns of a code.
pub record CodeColumns : Type 0 where
  -- edge columns
  pub ends_a : List ℕ
  pub ends_b : List ℕ
  pub p : List Float
  pub pe : List Float
  pub half_weight : List ℕ
  pub erasure : List ℕ
  -- vertex columns
  pub pos_i : List Float
  pub pos_j : List Float
  pub pos_t : List Float
  pub boundary : List ℕ
  pub defect : List ℕ
  pub list_lengths : List ℕ
  -- the neighbour lists, one after another
  pub neighbor_numbers : List ℕ

-- Records, on vertices, edges and neighbour lists: these columns, lent or left by reference.
abbrev pub code_in : (ends_a ends_b : List ℕ) (p pe : List Float) (half_weight erasure : List ℕ) (pos_i pos_j pos_t : List Float)
    (boundary defect list_lengths neighbor_numbers : List ℕ) → CodeColumns
code_in ends_a ends_b p pe half_weight erasure pos_i pos_j pos_t boundary defect list_lengths neighbor_numbers = record {
  ends_a = ends_a;
  ends_b = ends_b;
  p = p;
  pe = pe;
  half_weight = half_weight;
  erasure = erasure;
  pos_i = pos_i;
  pos_j = pos_j;
  pos_t = pos_t;
  boundary = boundary;
  defect = defect;
  list_lengths = list_lengths;
  neighbor_numbers = neighbor_numbers;
}

-- Questions at the door, 6: the least of six lengths.
abbrev pub shortest : (a b c d e f : ℕ) → ℕ
shortest a b c d e f = min a (min b (min c (min d (min e f))))

-- Questions at the door, 6: the length of the shortest edge column.
abbrev pub edge_room : CodeColumns → ℕ
edge_room c = shortest (length c.ends_a) (length c.ends_b) (length c.p) (length c.pe) (length c.half_weight) (length c.erasure)

-- Questions at the door, 6: the length of the shortest vertex column.
abbrev pub vertex_room : CodeColumns → ℕ
vertex_room c = shortest (length c.pos_i) (length c.pos_j) (length c.pos_t) (length c.boundary) (length c.defect) (length c.list_lengths)

-- Questions at the door, sentence 2: the columns of a code before a call and afterwards; q is the question's number, and `new` what is written where it is 0.
pub record HandedBack (q : ℕ) (new c₀ c : CodeColumns) : Type 0 where
  pub ends_a_after : c.ends_a ≡ after q new.ends_a c₀.ends_a
  pub ends_b_after : c.ends_b ≡ after q new.ends_b c₀.ends_b
  pub p_after : c.p ≡ after q new.p c₀.p
  pub pe_after : c.pe ≡ after q new.pe c₀.pe
  pub half_weight_after : c.half_weight ≡ after q new.half_weight c₀.half_weight
  pub erasure_after : c.erasure ≡ after q new.erasure c₀.erasure
  pub pos_i_after : c.pos_i ≡ after q new.pos_i c₀.pos_i
  pub pos_j_after : c.pos_j ≡ after q new.pos_j c₀.pos_j
  pub pos_t_after : c.pos_t ≡ after q new.pos_t c₀.pos_t
  pub boundary_after : c.boundary ≡ after q new.boundary c₀.boundary
  pub defect_after : c.defect ≡ after q new.defect c₀.defect
  pub list_lengths_after : c.list_lengths ≡ after q new.list_lengths c₀.list_lengths
  pub neighbor_numbers_after : c.neighbor_numbers ≡ after q new.neighbor_numbers c₀.neighbor_numbers
