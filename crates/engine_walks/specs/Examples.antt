-- Settling, tables, paths and crossings, computed on small graphs.
use Rattle.std.specs.Prelude.{◌≡◌, List, [], ◌∷◌, ℕ, get_or, pos, negsuc}
use Rattle.std.proofs.Math.Option.{some, none}
use Rattle.engine_walks.specs.Graph.{Graph, Walk, CrossingSet}
use Rattle.engine_walks.specs.Answers.{table, path, least_from_left, crossing}

-- Records, on engine graphs: the weight of each edge, from a list.
abbrev pub list_weights : List ℕ → ℕ → ℕ
list_weights ws e = get_or ws e 0

-- The program `codelist`, the listing's graph: edges (0,1) (1,2) (0,3); 2 is right, 3 left.
unfoldable pub listed_graph : Graph
listed_graph = record { vertices = 4; ends_a = 0 ∷ 1 ∷ 0 ∷ []; ends_b = 1 ∷ 2 ∷ 3 ∷ []; boundary = 0 ∷ 0 ∷ 2 ∷ 1 ∷ [] }

-- The program `codelist`, the listing's weights: each 1000.
unfoldable pub thousands : ℕ → ℕ
thousands = list_weights (1000 ∷ 1000 ∷ 1000 ∷ [])

-- Engine, Crossing: a left and a right vertex, and no edge.
unfoldable pub unjoined : Graph
unjoined = record { vertices = 2; ends_a = []; ends_b = []; boundary = 1 ∷ 2 ∷ [] }

-- Engine, Settling, sentence 4: edges (0,1) (0,2) (1,2).
unfoldable pub triangle : Graph
triangle = record { vertices = 3; ends_a = 0 ∷ 0 ∷ 1 ∷ []; ends_b = 1 ∷ 2 ∷ 2 ∷ []; boundary = 0 ∷ 0 ∷ 0 ∷ [] }

-- Engine, Settling, sentence 4: edges (0,2) (0,3) (1,2) (1,3).
unfoldable pub square : Graph
square = record { vertices = 4; ends_a = 0 ∷ 0 ∷ 1 ∷ 1 ∷ []; ends_b = 2 ∷ 3 ∷ 2 ∷ 3 ∷ []; boundary = 0 ∷ 0 ∷ 0 ∷ 0 ∷ [] }

-- Engine, Settling, sentence 4: edges (0,1) (0,3) (1,4) (2,3) (2,4).
unfoldable pub pentagon : Graph
pentagon = record { vertices = 5; ends_a = 0 ∷ 0 ∷ 1 ∷ 2 ∷ 2 ∷ []; ends_b = 1 ∷ 3 ∷ 4 ∷ 3 ∷ 4 ∷ []; boundary = 0 ∷ 0 ∷ 0 ∷ 0 ∷ 0 ∷ [] }

-- Engine: the definitions computed, on the listing's graph and on small graphs that tell wrong tie rules apart.
pub record SettlingExamples : Type 0 where
  -- The listing: a walk and a crossing set, and two edge sets that are none.
  pub walk_3_2 : Walk listed_graph 3 (2 ∷ 0 ∷ 1 ∷ []) 2
  pub crossing_set : CrossingSet listed_graph (0 ∷ 1 ∷ 2 ∷ [])
  pub empty_set_crosses_nothing : ¬ CrossingSet listed_graph []
  pub edge_2_leaves_a_defect : ¬ CrossingSet listed_graph (2 ∷ [])
  -- The listing: path and crossing weights.
  pub path_3_2 : path listed_graph thousands 3 2 ≡ some (record { vertices = 0 ∷ 1 ∷ 2 ∷ []; steps = 1000 ∷ 1000 ∷ 1000 ∷ []; total = 3000 })
  pub crossing_3000 : crossing listed_graph thousands ≡ some 3000
  pub from_left_holds : least_from_left listed_graph thousands ≡ pos 1000 ∷ pos 2000 ∷ pos 3000 ∷ pos 0 ∷ []
  pub edge_1_erased : crossing listed_graph (list_weights (1000 ∷ 0 ∷ 1000 ∷ [])) ≡ some 2000
  pub unit_weights : crossing listed_graph (λ e. 1) ≡ some 3
  -- A named end, no end, and an end equal to the source, which stops nothing.
  pub end_0 : table listed_graph thousands 3 (some 0) ≡ record { weights = pos 1000 ∷ negsuc 0 ∷ negsuc 0 ∷ pos 0 ∷ []; previous = 3 ∷ 0 ∷ 0 ∷ 3 ∷ [] }
  pub no_end : table listed_graph thousands 3 none ≡ record { weights = pos 1000 ∷ pos 2000 ∷ pos 3000 ∷ pos 0 ∷ []; previous = 3 ∷ 0 ∷ 1 ∷ 3 ∷ [] }
  pub end_at_source : table listed_graph thousands 3 (some 3) ≡ record { weights = pos 1000 ∷ pos 2000 ∷ pos 3000 ∷ pos 0 ∷ []; previous = 3 ∷ 0 ∷ 1 ∷ 3 ∷ [] }
  -- Unreached.
  pub no_crossing : crossing unjoined thousands ≡ none
  pub right_unreached : least_from_left unjoined thousands ≡ pos 0 ∷ negsuc 0 ∷ []
  pub no_path : path unjoined thousands 0 1 ≡ none
  -- Ties: nothing changes on equal previous vertices; the nearer previous vertex; the smaller of two equally near.
  pub previous_stays : (table triangle (λ e. 0) 0 none).previous ≡ 0 ∷ 0 ∷ 0 ∷ []
  pub nearer_previous : (table square (λ e. 0) 0 none).previous ≡ 0 ∷ 2 ∷ 0 ∷ 1 ∷ []
  pub smaller_previous : (table pentagon (list_weights (0 ∷ 0 ∷ 0 ∷ 1 ∷ 1 ∷ [])) 0 none).previous ≡ 0 ∷ 0 ∷ 4 ∷ 0 ∷ 1 ∷ []
