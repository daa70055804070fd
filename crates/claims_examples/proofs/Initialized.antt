-- `get_initializer` hands the listing's graph on: what `new` left meets its questions. Assumes nothing.
use mathlib.Core.Path.{◌≡◌, refl, ap, ◌∙◌}
use mathlib.Core.Bool.{true}
use mathlib.Core.List.{List, [], ◌∷◌}
use Prim.Native.Nat.{ℕ, ◌≤◌}
use native.Mathlib.Omega.{arith}
use borrow.Author.Tests.{le-leb}
use lib.ListN.{length, take, drop, length-append}
use Rattle.columns.specs.Lists.{each, joined, layered, over, after}
use Rattle.columns.specs.Questions.{ask, all}
use Rattle.columns.proofs.Columns.{take-over, after-accepted}
use Rattle.columns.proofs.Tests.{both_and}
use Rattle.std.specs.Prelude.{Result}
use Rattle.columns.specs.declared.refusal.Refusal.{Refusal}
use Rattle.columns_answers.specs.Said.{accepts, said}
use Rattle.columns_marks.specs.Marks.{listed}
use Rattle.columns_neighbors.specs.Lists.{chosen}
use Rattle.columns_room.specs.Room.{two_long, three_long}
use Rattle.columns_room.specs.Graph.{code_sound}
use Rattle.codes_writers.specs.Edges.{firsts, seconds, boundaries}
use Rattle.codes_planar.specs.Planar.{planar_boundary, capacity_vertex}
use Rattle.codes_layers.specs.Codes.{rows, width, vertex_of, layer_vertices, edges_of, vertices_of}
use Rattle.codes_layers.specs.Counts.{layer_vertex_num, layer_edge_num, gap_edge_num}
use Rattle.codes_layers.specs.Accepts.{kind_known, distance_sound, rounds_sound, code_refusal}
use Rattle.codes_graphs.proofs.Sound.{codes_are_sound}
use Rattle.codes_graphs.specs.Claims.{BuiltCode}
use Rattle.codes_calls.specs.Columns.{CodeColumns}
use Rattle.access_vertices.specs.Weights.{weights}
use Rattle.access_calls.specs.Calls.{Code, code, Initializer, initializer_long, initializer_sound, initializer_refusal, GotInitializer}
use Rattle.engine_columns.specs.Open.{graph_columns}
use Rattle.claims_examples.specs.Called.{InitializerReturned, initializer_returned}
use Rattle.claims_examples.specs.Starred.{InitializerRoom, listing_graph, graph_handed_on}
use Rattle.claims_examples.proofs.Answers.{said-accepts}
use Rattle.claims_examples.proofs.Builders.{ListingLeft, listing-places, three-edges}

got_of : (v e : ℕ) (c : Code) (to₀ to : Initializer) (n : Result ℕ Refusal) → InitializerReturned v e c to₀ to n → GotInitializer v e c to₀ to n
got_of v e c to₀ to n (initializer_returned κs a q s h) = h

over_long : (vs column : List ℕ) (n : ℕ) → length vs ≡ n → n ≤ length (over vs column)
over_long vs column n q = omega (arith, length-append vs (drop (length vs) column), q)

listing-code : BuiltCode 1 3 0
unfolding code_refusal kind_known distance_sound rounds_sound layer_vertex_num
listing-code = codes_are_sound 1 3 0 refl

module _ (a₀ b₀ h₀ m₀ : List ℕ) (to₀ : Initializer) (room : InitializerRoom to₀) where
  abbrev left : Code
  left = code (over (firsts (edges_of 1 3 0)) a₀) (over (seconds (edges_of 1 3 0)) b₀) (over (500 ∷ 500 ∷ 500 ∷ []) h₀) (over (boundaries (vertices_of 1 3 0)) m₀)

  long : initializer_long 4 3 left to₀ ≡ true
  unfolding initializer_long three_long two_long
  long =
      both_and (both_and (le-leb _ _ (over_long (firsts (edges_of 1 3 0)) a₀ 3 three-edges.0)) (both_and (le-leb _ _ (over_long (seconds (edges_of 1 3 0)) b₀ 3 three-edges.1)) (le-leb _ _ (over_long (500 ∷ 500 ∷ 500 ∷ []) h₀ 3 refl))))
      (both_and (both_and (le-leb _ _ room.ends_a_long) (both_and (le-leb _ _ room.ends_b_long) (le-leb _ _ room.weight_long)))
      (both_and (le-leb _ _ (over_long (boundaries (vertices_of 1 3 0)) m₀ 4 three-edges.2)) (le-leb _ _ room.virtual_long)))

  sound : initializer_sound 4 3 left ≡ true
  unfolding initializer_sound code_sound all layer_vertex_num layer_edge_num gap_edge_num
  sound = both_and (both_and (listing-code.graph a₀ b₀) (listing-code.boundary m₀)) refl

  accepted : initializer_refusal 4 3 left to₀ ≡ 0
  accepted = λ i. ask (long i) 6 (ask (sound i) 7 0)

two-virtual : (m₀ : List ℕ) → length (listed 4 (over (boundaries (vertices_of 1 3 0)) m₀)) ≡ 2
unfolding listed chosen each joined layered rows width vertices_of layer_vertices vertex_of capacity_vertex planar_boundary
two-virtual m₀ = refl

-- the first places of a column that was written
held : (n q : ℕ) (vs ws column₀ column : List ℕ) → column ≡ after q vs column₀ → q ≡ 0 → vs ≡ ws → length ws ≡ n → take n column ≡ ws
held n q vs ws column₀ column p z r l = ap (take n) (p ∙ after-accepted q vs column₀ z ∙ ap (λ (x : List ℕ). over x column₀) r) ∙ take-over ws column₀ n l

pub listing_handed_on : (c₀ c : CodeColumns) → ListingLeft c₀ c → (to₀ to : Initializer) (n : Result ℕ Refusal)
    → InitializerReturned 4 3 (code c.ends_a c.ends_b c.half_weight c.boundary) to₀ to n → InitializerRoom to₀
    → (said 0 n ≡ accepts 2) × (graph_handed_on c to ≡ listing_graph)
listing_handed_on c₀ c w to₀ to n x room =
    let from = code c.ends_a c.ends_b c.half_weight c.boundary in
    let got = got_of 4 3 from to₀ to n x in
    let q = initializer_refusal 4 3 from to₀ in
    let z : q ≡ 0 = (λ i. initializer_refusal 4 3 (code (w.ends_a_is i) (w.ends_b_is i) (w.half_weight_is i) (w.boundary_is i)) to₀) ∙ accepted c₀.ends_a c₀.ends_b c₀.half_weight c₀.boundary to₀ room in
    let (first, second, doubles, bytes) = listing-places c₀ c w in
    let a = held 3 q (take 3 c.ends_a) (firsts (edges_of 1 3 0)) to₀.ends_a to.ends_a got.ends_a_after z first three-edges.0 in
    let b = held 3 q (take 3 c.ends_b) (seconds (edges_of 1 3 0)) to₀.ends_b to.ends_b got.ends_b_after z second three-edges.1 in
    let x = held 3 q (weights 3 c.half_weight) (1000 ∷ 1000 ∷ 1000 ∷ []) to₀.weight to.weight got.weight_after z doubles refl in
    (said-accepts got.answers z ∙ ap accepts (ap (λ l. length (listed 4 l)) w.boundary_is ∙ two-virtual c₀.boundary), λ i. graph_columns (a i) (b i) (x i) (bytes i))
