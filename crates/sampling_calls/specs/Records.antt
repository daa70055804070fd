-- The defect and erasure columns that these calls are lent, with question 6 of them.
use Rattle.std.specs.Prelude.{ℕ, Bool, ◌&&◌, List, length}
use Rattle.columns_room.specs.Room.{two_long}

-- Records, on vertices and edges: defect and erasure bytes, and the lists of defects and erasures to be handed back.
pub record SyndromeColumns : Type 0 where
  pub defect : List ℕ
  pub erasure : List ℕ
  pub defect_list : List ℕ
  pub erasure_list : List ℕ

-- Records, on vertices and edges: these columns together.
abbrev pub syndrome_columns : (defect erasure defect_list erasure_list : List ℕ) → SyndromeColumns
syndrome_columns d s dl sl = record { defect = d; erasure = s; defect_list = dl; erasure_list = sl }

-- Questions at the door, 6: the vertex columns among them as long as the vertices, the edge columns as long as the edges.
unfoldable pub syndrome_long : (v e : ℕ) → SyndromeColumns → Bool
syndrome_long v e s = two_long v (length s.defect) (length s.defect_list) && two_long e (length s.erasure) (length s.erasure_list)
