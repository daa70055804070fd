-- Document 01's "Checked examples", those with a star, about the definitions that the contracts cite and about calls of the real functions.
use Rattle.columns.specs.declared.refusal.Refusal.TheVariants.{BadDistance, TooManyVertices}
use Rattle.codes_calls.specs.declared.CodeCounts.{CodeCounts}
use Rattle.codes_calls.specs.CreateCode.{code_counts, no_code_counts}
use Rattle.columns.specs.declared.refusal.Refusal.{Refusal}
use Rattle.std.specs.Prelude.{◌≡◌, true, List, [], ◌∷◌, ℕ, ◌≤◌, length, take, replicate, Float, Option, Result, Ok, Err}
use Rattle.std.proofs.Math.Option.{Option as MathOption, some}
use Rattle.std.specs.Float.{binary64}
use Rattle.std.specs.Float.Ieee.{of_bits}
use Rattle.columns.specs.Lists.{over}
use Rattle.columns_answers.specs.Said.{accepts, refuses, said}
use Rattle.columns.specs.Places.{zero_float}
use Rattle.codes_writers.specs.Edges.{firsts, seconds, boundaries}
use Rattle.codes_layers.specs.Codes.{edges_of, vertices_of}
use Rattle.codes_questions.specs.Answers.{CountsVertices, CountsEdges}
use Rattle.codes_calls.specs.Columns.{CodeColumns, vertex_room, edge_room, long_enough}
use Rattle.access_vertices.specs.Weights.{weights as doubled}
use Rattle.access_calls.specs.Calls.{code, Initializer}
use Rattle.weights_calls.specs.Calls.{is_largest_half_weight, half_weights, compute_refusal}
use Rattle.columns.specs.Limits.{edge_limit}
use Rattle.codes_layers.specs.Accepts.{kind_known}
use Rattle.engine_columns.specs.Records.{Engine, engine, counts}
use Rattle.engine_columns.specs.Calls.{Call, load_erasures, load_weights, reset}
use Rattle.engine_columns.specs.Open.{GraphColumns, graph_columns}
use Rattle.engine_tally.specs.Tally.{Lengths, Tally, Fed, tally_of, tally_after, lengths_of}
use Rattle.engine_walks.specs.Answers.{path, crossing}
use Rattle.query_questions.specs.Queries as Q
use Rattle.query_questions.specs.Scratch.{ScratchColumns, scratch_fits}
use Rattle.query_paths.specs.declared.PathCounts.{PathCounts}
use Rattle.query_paths.specs.GetPath.{path_counts, no_path, path_asked, path_refusal}
use Rattle.weights_claims.specs.Called.{WeightsReturned}
use Rattle.claims.specs.BuildersCalled.{CreateReturned, NewReturned, NewDiagonalReturned, CodeBuilt}
use Rattle.claims_examples.specs.Called.{InitializerReturned}
use Rattle.claims.specs.Listed.{CallArguments, modify_by, listed_calls, tally_graph, tally_weights}
use Rattle.claims.specs.QueriesCalled.{PathColumns, PathReturned}
use Rattle.claims.specs.Called.{OpenCalled}
use Rattle.claims.specs.Demand3.{History, CrossingThen, refused_before}

-- Checked examples, "the listing's graph": kind 1, d 3, every weight 1000.
abbrev pub listing_graph : GraphColumns
listing_graph = graph_columns (firsts (edges_of 1 3 0)) (seconds (edges_of 1 3 0)) (1000 ∷ 1000 ∷ 1000 ∷ []) (boundaries (vertices_of 1 3 0))

-- Checked examples, of the listing's graph: columns of 4 vertices and 3 edges, and a log with room for 3 entries.
abbrev pub roomy : Lengths
roomy = record { ends_a = 3; ends_b = 3; weights = 3; boundary = 4; log_edges = 3; log_weights = 3 }

-- Checked examples, of the listing's graph: a call on these columns, as the tally is fed it.
abbrev pub fed : Call → Fed
fed call = record { call = call; lent = roomy }

-- Checked examples: the listing's graph after a list of calls.
abbrev pub listing_after : List Fed → Tally
listing_after fs = tally_after fs (tally_of 4 3 listing_graph)

-- Checked examples: the crossing weight of the listing's graph after a list of calls.
abbrev pub crossing_after : List Fed → MathOption ℕ
crossing_after fs = crossing (tally_graph (listing_after fs)) (tally_weights (listing_after fs))

-- Checked examples: the listing's graph in the engine's columns.
abbrev pub listing_engine : Engine
listing_engine = engine (counts 4 3 0) listing_graph.ends_a listing_graph.ends_b listing_graph.weights listing_graph.boundary (0 ∷ 0 ∷ 0 ∷ []) (0 ∷ 0 ∷ 0 ∷ [])

-- ---- builders

-- Questions at the door, sentence 2: a builder's answer is a refusal by number q, other result fields 0, and no column changed.
abbrev pub RefusedBy : ℕ → (c₀ c : CodeColumns) → Result CodeCounts Refusal → Type 0
RefusedBy q c₀ c r = (said no_code_counts r ≡ refuses q no_code_counts) × (c ≡ c₀)

-- Six builders; Weights: whatever columns it is lent, and whatever p, M and diagonal probability it is given,
-- each builder refuses by number q: `create_code`, `new`, and of kind 4 `new_diagonal`.
pub record BuildersRefuse (kind d rounds q : ℕ) : Type 0 where
  pub create : (c₀ c : CodeColumns) (r : Result CodeCounts Refusal) → CreateReturned kind d rounds c₀ c r → RefusedBy q c₀ c r
  pub new : (p : Float) (max : ℕ) (c₀ c : CodeColumns) (r : Result CodeCounts Refusal) → NewReturned kind d rounds p max c₀ c r → RefusedBy q c₀ c r
  pub new_diagonal_holds : kind ≡ 4 → (p : Float) (diagonal : Option Float) (max : ℕ) (c₀ c : CodeColumns) (r : Result CodeCounts Refusal)
      → NewDiagonalReturned d rounds p diagonal max c₀ c r → RefusedBy q c₀ c r

-- Six builders: wherever the columns lent are long enough, `create_code` answers with v vertices and e edges.
abbrev pub CreateGives : (kind d rounds v e : ℕ) → Type 0
CreateGives kind d rounds v e =
    (c₀ c : CodeColumns) (r : Result CodeCounts Refusal) → CreateReturned kind d rounds c₀ c r → long_enough v e (vertex_room c₀) (edge_room c₀) (length c₀.neighbor_numbers) ≡ true
    → said no_code_counts r ≡ accepts (code_counts v e)

-- Checked examples, d 3, kind 5: the counts of the code, and its edges and boundary bytes in the columns' first places.
pub record KindFive (v e : ℕ) (ends_a ends_b boundary : List ℕ) : Type 0 where
  pub vertices_are : v ≡ 8
  pub edges_are : e ≡ 9
  pub first_ends : take 9 ends_a ≡ 0 ∷ 0 ∷ 1 ∷ 2 ∷ 3 ∷ 3 ∷ 4 ∷ 4 ∷ 5 ∷ []
  pub second_ends : take 9 ends_b ≡ 2 ∷ 3 ∷ 3 ∷ 4 ∷ 4 ∷ 5 ∷ 6 ∷ 7 ∷ 7 ∷ []
  pub left_and_right : take 8 boundary ≡ 0 ∷ 2 ∷ 1 ∷ 0 ∷ 0 ∷ 2 ∷ 1 ∷ 0 ∷ []

-- The program codelist: the p of the example line, by its bits.
abbrev pub listing_p : Float
listing_p = of_bits binary64 0x3fc0000000000000

-- Weights, get_initializer: columns with room for the listing's graph.
pub record InitializerRoom (to : Initializer) : Type 0 where
  pub ends_a_long : 3 ≤ length to.ends_a
  pub ends_b_long : 3 ≤ length to.ends_b
  pub weight_long : 3 ≤ length to.weight
  pub virtual_long : 4 ≤ length to.virtual

-- Weights, get_initializer: the graph that it hands on from a code of 4 vertices and 3 edges: ends and weights in its own columns, boundary bytes in the code's.
abbrev pub graph_handed_on : CodeColumns → Initializer → GraphColumns
graph_handed_on c to = graph_columns (take 3 to.ends_a) (take 3 to.ends_b) (take 3 to.weight) (take 4 c.boundary)

-- Weights, get_initializer: the graph of 4 vertices and 3 edges in a code's columns; the weight is twice the half weight.
abbrev pub graph_of_code : CodeColumns → GraphColumns
graph_of_code c = graph_columns (take 3 c.ends_a) (take 3 c.ends_b) (doubled 3 c.half_weight) (take 4 c.boundary)

-- ---- calls on the listing's graph

-- Checked examples, of the listing's graph: a path's own columns have room.
pub record PathRoom (columns : PathColumns) (scratch : ScratchColumns) : Type 0 where
  pub vertices_long : 4 ≤ length columns.vertices
  pub steps_long : 4 ≤ length columns.steps
  pub scratch_long_holds : scratch_fits (counts 4 3 0) scratch ≡ true

-- Checked examples, of the listing's graph: a history that opened it and then made these calls, with room in the log for three entries.
pub record OnListing (h : History) (list : List CallArguments) : Type 0 where
  pub vertices_are : h.vertices ≡ 4
  pub edges_are : h.edges ≡ 3
  pub handed_are : h.handed ≡ listing_graph
  pub calls_are : h.calls ≡ listed_calls (lengths_of h.fresh) list
  pub log_edges_long : 3 ≤ length h.fresh.log_edges
  pub log_weights_long : 3 ≤ length h.fresh.log_weights

-- Checked examples, of the listing's graph: these calls are accepted, and a crossing called then, if no question before 18 refuses it, reports this weight.
abbrev pub CrossesAt : List CallArguments → ℕ → Type 0
CrossesAt list weight =
    (h : History) (c : CrossingThen h) → OnListing h list → refused_before h c ≡ 0 → (h.answers ≡ replicate (length list) 0) × (c.reply ≡ Ok weight)

-- Checked examples, those with a star, as one joint statement; the quoted words are document 01's.
pub record StarredExamples : Type 0 where
  -- "d 3, kind 5: edges (0,2) (0,3) (1,3) (2,4) (3,4) (3,5) (4,6) (4,7) (5,7); left 2, 6; right 1, 5."
  pub kind_5_edges : edges_of 5 3 0 ≡ (0, 2) ∷ (0, 3) ∷ (1, 3) ∷ (2, 4) ∷ (3, 4) ∷ (3, 5) ∷ (4, 6) ∷ (4, 7) ∷ (5, 7) ∷ []
  pub kind_5_boundary : boundaries (vertices_of 5 3 0) ≡ 0 ∷ 2 ∷ 1 ∷ 0 ∷ 0 ∷ 2 ∷ 1 ∷ 0 ∷ []
  pub kind_5_built : CreateGives 5 3 0 8 9
  pub kind_5_left : (v e : ℕ) (ends_a ends_b boundary : List ℕ) → CodeBuilt 5 3 0 v e ends_a ends_b boundary → KindFive v e ends_a ends_b boundary
  -- "d 3, kind 4, rounds 1: 24 vertices, 41 edges. Kind 6: 16 and 26."
  pub kind_4_vertices : CountsVertices 4 3 1 (Ok 24)
  pub kind_4_edges : CountsEdges 4 3 1 (Ok 41)
  pub kind_6_vertices : CountsVertices 6 3 1 (Ok 16)
  pub kind_6_edges : CountsEdges 6 3 1 (Ok 26)
  pub kind_4_lists : (length (vertices_of 4 3 1) ≡ 24) × (length (edges_of 4 3 1) ≡ 41)
  pub kind_6_lists : (length (vertices_of 6 3 1) ≡ 16) × (length (edges_of 6 3 1) ≡ 26)
  pub kind_4_built : CreateGives 4 3 1 24 41
  pub kind_6_built : CreateGives 6 3 1 16 26
  -- "Kind 2: d 63 gives 4,032 vertices; d 65 refuses 5."
  pub kind_2_d_63 : CountsVertices 2 63 0 (Ok 4032)
  pub kind_2_d_65 : CountsVertices 2 65 0 (Err TooManyVertices)
  pub kind_2_d_63_list : length (vertices_of 2 63 0) ≡ 4032
  pub kind_2_d_63_built : CreateGives 2 63 0 4032 7813
  pub kind_2_d_65_built : BuildersRefuse 2 65 0 5
  -- "Kind 3, d 3: rounds 340 gives 4,092; 341 refuses 5."
  pub kind_3_rounds_340 : CountsVertices 3 3 340 (Ok 4092)
  pub kind_3_rounds_341 : CountsVertices 3 3 341 (Err TooManyVertices)
  pub kind_3_rounds_340_list : length (vertices_of 3 3 340) ≡ 4092
  pub kind_3_rounds_340_built : CreateGives 3 3 340 4092 6473
  pub kind_3_rounds_341_built : BuildersRefuse 3 3 341 5
  -- "d 4: 3." For every kind.
  pub d_4 : (kind rounds : ℕ) → kind_known kind ≡ true → CountsVertices kind 4 rounds (Err BadDistance)
  pub d_4_built : (kind rounds : ℕ) → kind_known kind ≡ true → BuildersRefuse kind 4 rounds 3
  -- "The listing's graph": `new` with the kind, d, rounds, p and M of the example line builds it, wherever the columns lent are long enough.
  pub listing_built : (c₀ c : CodeColumns) (r : Result CodeCounts Refusal) → NewReturned 1 3 0 listing_p 500 c₀ c r → long_enough 4 3 (vertex_room c₀) (edge_room c₀) (length c₀.neighbor_numbers) ≡ true
      → (said no_code_counts r ≡ accepts (code_counts 4 3)) × (graph_of_code c ≡ listing_graph)
  -- Weights, get_initializer: called on it then, `get_initializer` hands this graph on, with two virtual vertices, wherever its own columns have room.
  pub listing_handed_on : (c₀ c : CodeColumns) (r : Result CodeCounts Refusal) (to₀ to : Initializer) (n : Result ℕ Refusal) → NewReturned 1 3 0 listing_p 500 c₀ c r
      → long_enough 4 3 (vertex_room c₀) (edge_room c₀) (length c₀.neighbor_numbers) ≡ true
      → InitializerReturned 4 3 (code c.ends_a c.ends_b c.half_weight c.boundary) to₀ to n → InitializerRoom to₀
      → (said 0 n ≡ accepts 2) × (graph_handed_on c to ≡ listing_graph)
  -- "path 3 to 2 is (0,1000) (1,1000) (2,1000), total 3000;"
  pub path_3_2 : path (tally_graph (listing_after [])) (tally_weights (listing_after [])) 3 2
      ≡ some (record { vertices = 0 ∷ 1 ∷ 2 ∷ []; steps = 1000 ∷ 1000 ∷ 1000 ∷ []; total = 3000 })
  pub path_3_2_asked : path_asked listing_engine true 3 2 4 4 ≡ 0
  pub path_3_2_called : (e : Engine) (r : Result PathCounts Refusal) (columns₀ columns : PathColumns) (scratch₀ scratch : ScratchColumns) → OpenCalled 4 3 listing_graph e
      → PathReturned e 3 2 r columns₀ columns scratch₀ scratch → PathRoom columns₀ scratch₀
      → (said no_path r ≡ accepts (path_counts 3 3000)) × (columns.vertices ≡ over (0 ∷ 1 ∷ 2 ∷ []) columns₀.vertices) × (columns.steps ≡ over (1000 ∷ 1000 ∷ 1000 ∷ []) columns₀.steps)
  -- "edge 1 erased, crossing 2000;"
  pub edge_1_erased : crossing_after (fed (load_erasures (1 ∷ [])) ∷ []) ≡ some 2000
  pub edge_1_erased_called : CrossesAt (modify_by (load_erasures (1 ∷ [])) ∷ []) 2000
  -- "reset, 3000;"
  pub then_reset : crossing_after (fed (load_erasures (1 ∷ [])) ∷ fed reset ∷ []) ≡ some 3000
  pub then_reset_called : CrossesAt (modify_by (load_erasures (1 ∷ [])) ∷ modify_by reset ∷ []) 3000
  -- "every weight 1, crossing 3."
  pub every_weight_1 : crossing_after (fed (load_weights (0 ∷ 1 ∷ 2 ∷ []) (1 ∷ 1 ∷ 1 ∷ [])) ∷ []) ≡ some 3
  pub every_weight_1_called : CrossesAt (modify_by (load_weights (0 ∷ 1 ∷ 2 ∷ []) (1 ∷ 1 ∷ 1 ∷ [])) ∷ []) 3
  -- "Every p 0: half weights 1."
  pub every_p_0 : (max n : ℕ) → is_largest_half_weight max ≡ true → half_weights max (replicate n zero_float) ≡ replicate n 1
  pub every_p_0_asked : (max n : ℕ) (column : List ℕ) → is_largest_half_weight max ≡ true → 1 ≤ n → n ≤ edge_limit → n ≤ length column
      → compute_refusal n (replicate n zero_float) column max ≡ 0
  pub every_p_0_computed : (max n : ℕ) (column₀ column : List ℕ) (r : Result (Unit {0}) Refusal) → is_largest_half_weight max ≡ true → 1 ≤ n → n ≤ edge_limit → n ≤ length column₀
      → WeightsReturned n (replicate n zero_float) column₀ max r column → (said tt r ≡ accepts tt) × (column ≡ over (replicate n 1) column₀)
  -- "Path 2 to 2: 16."
  pub path_2_2 : path_refusal (path_asked listing_engine true 2 2 4 4) (path (Q.graph_in listing_engine) (Q.weights_in listing_engine) 2 2) ≡ 16
  pub path_2_2_called : (e : Engine) (r : Result PathCounts Refusal) (columns₀ columns : PathColumns) (scratch₀ scratch : ScratchColumns) → OpenCalled 4 3 listing_graph e
      → PathReturned e 2 2 r columns₀ columns scratch₀ scratch → PathRoom columns₀ scratch₀
      → (said no_path r ≡ refuses 16 no_path) × (columns ≡ columns₀) × (scratch ≡ scratch₀)
