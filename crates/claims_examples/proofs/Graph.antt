-- The listing's graph, written out, and its path and crossing weights, by computation. Assumes nothing.
use mathlib.Core.Path.{◌≡◌, refl, ◌∙◌}
use mathlib.Core.List.{List, [], ◌∷◌}
use mathlib.Core.Option.{some}
use Prim.Native.Nat.{ℕ}
use lib.ListN.{get_or}
use Rattle.columns.specs.Lists.{each, joined, layered}
use Rattle.codes_writers.specs.Edges.{straight_edges, straight_rows, firsts, seconds, boundaries}
use Rattle.codes_planar.specs.Planar.{row_edges, planar_row, planar_layer, planar_gap, planar_boundary, capacity_vertex}
use Rattle.codes_layers.specs.Codes.{rows, width, layer_edges, gap_edges, edges_of, vertex_of, layer_vertices, vertices_of}
use Rattle.engine_columns.specs.Open.{GraphColumns, graph_columns}
use Rattle.engine_tally.specs.Tally.{Tally, tally_of}
use Rattle.engine_walks.specs.Settling as S
use Rattle.engine_walks.specs.Settling.{first_least, start, changes, by_status, offer, relax_edge, relax, stopped, next, settle}
use Rattle.engine_walks.specs.Answers.{read_back_of, step_into, path_in, path, from_left, nearest_right, crossing}
use Rattle.engine_walks.specs.Graph.{Graph}
use Rattle.claims.specs.Listed.{tally_graph, tally_weights}
use Rattle.claims_examples.specs.Starred.{listing_graph}

abbrev pub graph : Graph
graph = record { vertices = 4; ends_a = 0 ∷ 1 ∷ 0 ∷ []; ends_b = 1 ∷ 2 ∷ 3 ∷ []; boundary = 0 ∷ 0 ∷ 2 ∷ 1 ∷ [] }

abbrev pub weigh : List ℕ → ℕ → ℕ
weigh ws k = get_or ws k 0

ends_a : firsts (edges_of 1 3 0) ≡ 0 ∷ 1 ∷ 0 ∷ []
unfolding edges_of layered each joined rows width layer_edges gap_edges straight_rows straight_edges row_edges planar_layer planar_row planar_gap
ends_a = refl

ends_b : seconds (edges_of 1 3 0) ≡ 1 ∷ 2 ∷ 3 ∷ []
unfolding edges_of layered each joined rows width layer_edges gap_edges straight_rows straight_edges row_edges planar_layer planar_row planar_gap
ends_b = refl

bytes : boundaries (vertices_of 1 3 0) ≡ 0 ∷ 0 ∷ 2 ∷ 1 ∷ []
unfolding vertices_of layered each joined rows width layer_vertices vertex_of capacity_vertex planar_boundary
bytes = refl

pub columns : listing_graph ≡ graph_columns (0 ∷ 1 ∷ 0 ∷ []) (1 ∷ 2 ∷ 3 ∷ []) (1000 ∷ 1000 ∷ 1000 ∷ []) (0 ∷ 0 ∷ 2 ∷ 1 ∷ [])
columns = λ i. graph_columns (ends_a i) (ends_b i) (1000 ∷ 1000 ∷ 1000 ∷ []) (bytes i)

abbrev pub written : GraphColumns
written = graph_columns (0 ∷ 1 ∷ 0 ∷ []) (1 ∷ 2 ∷ 3 ∷ []) (1000 ∷ 1000 ∷ 1000 ∷ []) (0 ∷ 0 ∷ 2 ∷ 1 ∷ [])

-- the crossing weight from the tally's graph and weights, written out
pub by_parts : (t : Tally) (ws : List ℕ) (w : ℕ) → tally_graph t ≡ graph → t.weights ≡ ws → crossing graph (weigh ws) ≡ some w → crossing (tally_graph t) (tally_weights t) ≡ some w
by_parts t ws w p q r = (λ i. crossing (p i) (weigh (q i))) ∙ r

pub crossing_2000 : crossing graph (weigh (1000 ∷ 0 ∷ 1000 ∷ [])) ≡ some 2000
unfolding each first_least start changes by_status offer relax_edge relax S.take_vertex stopped next settle from_left nearest_right crossing
crossing_2000 = refl

pub crossing_3000 : crossing graph (weigh (1000 ∷ 1000 ∷ 1000 ∷ [])) ≡ some 3000
unfolding each first_least start changes by_status offer relax_edge relax S.take_vertex stopped next settle from_left nearest_right crossing
crossing_3000 = refl

pub crossing_3 : crossing graph (weigh (1 ∷ 1 ∷ 1 ∷ [])) ≡ some 3
unfolding each first_least start changes by_status offer relax_edge relax S.take_vertex stopped next settle from_left nearest_right crossing
crossing_3 = refl

pub path_3000 : path (tally_graph (tally_of 4 3 listing_graph)) (tally_weights (tally_of 4 3 listing_graph)) 3 2
    ≡ some (record { vertices = 0 ∷ 1 ∷ 2 ∷ []; steps = 1000 ∷ 1000 ∷ 1000 ∷ []; total = 3000 })
unfolding edges_of layered each joined rows width layer_edges gap_edges straight_rows straight_edges row_edges planar_layer planar_row planar_gap first_least start changes by_status offer relax_edge relax S.take_vertex stopped next settle read_back_of step_into path_in path
path_3000 = refl
