-- What `codelist` prints for the five numbers of a line: document 01, "The program `codelist`".
use Rattle.std.specs.Prelude.{ℕ, ◌&&◌, cond, List, eqb, leb, get_or, Float}
use Rattle.std.proofs.Math.Option.{Option, some, none}
use Rattle.columns.specs.Questions.{ask}
use Rattle.access_vertices.specs.Weights.{weights}
use Rattle.codes_writers.specs.Edges.{firsts, seconds, boundaries}
use Rattle.codes_layers.specs.Codes.{edges_of, vertices_of}
use Rattle.codes_layers.specs.Counts.{vertex_num, edge_num}
use Rattle.codes_layers.specs.Accepts.{code_refusal}
use Rattle.codes_graphs.specs.Graphs.{built_graph}
use Rattle.engine_walks.specs.Answers.{crossing}
use Rattle.weights_recipe.specs.Probabilities.{is_probability}
use Rattle.weights_diagonal.specs.Diagonal.{is_diagonal_probability}
use Rattle.weights_calls.specs.Calls.{edge_weights, some_above, is_largest_half_weight, half_weights}
use Rattle.codes_calls.specs.Probabilities.{probabilities, diagonal_of}
use Rattle.text_numbers.specs.Text.{refusal_line, listing}

-- ---- the questions after the first

-- The program codelist, sentence 3; Questions at the door, 2 to 6 and 8 to 10: over 1,024 vertices it gives 6, in that question's place.
unfoldable pub list_refusal : (kind d rounds : ℕ) (p : Float) (max : ℕ) → ℕ
list_refusal kind d rounds p max =
    code_refusal kind d rounds
    (ask (leb (vertex_num kind d rounds) 1024) 6
    (ask (is_largest_half_weight max) 8
    (ask (is_probability p && is_diagonal_probability (diagonal_of kind p)) 9
    (ask (some_above (edge_weights (probabilities kind d rounds p (diagonal_of kind p)))) 10 0))))

-- ---- the listing of a code that is built with `new`

-- Weights, get_initializer: the weight of each edge, twice the half weight.
unfoldable pub weights_of : (kind d rounds : ℕ) (p : Float) (max : ℕ) → List ℕ
weights_of kind d rounds p max = weights (edge_num kind d rounds) (half_weights max (probabilities kind d rounds p (diagonal_of kind p)))

-- Engine, Crossing, sentence 1: the crossing weight under these weights, if there is one.
unfoldable pub crossing_of : (kind d rounds : ℕ) (p : Float) (max : ℕ) → Option ℕ
crossing_of kind d rounds p max = crossing (built_graph kind d rounds) (λ e. get_or (weights_of kind d rounds p max) e 0)

-- The program codelist, the listing, with a crossing weight; 18 where there is none, which no code has (Claims).
abbrev pub with_crossing : (kind d rounds : ℕ) (weights : List ℕ) → Option ℕ → List ℕ
with_crossing kind d rounds weights (some weight) =
    listing kind d rounds (vertex_num kind d rounds) (edge_num kind d rounds) (boundaries (vertices_of kind d rounds)) (firsts (edges_of kind d rounds)) (seconds (edges_of kind d rounds)) weights weight
with_crossing kind d rounds weights none = refusal_line 18

-- The program codelist, sentence 2 and the listing: of a code that is built with `new`.
unfoldable pub listing_of : (kind d rounds : ℕ) (p : Float) (max : ℕ) → List ℕ
listing_of kind d rounds p max = with_crossing kind d rounds (weights_of kind d rounds p max) (crossing_of kind d rounds p max)

-- The program codelist, sentence 4 and the listing: a refusal, or the listing.
unfoldable pub code_text : (kind d rounds : ℕ) (p : Float) (max : ℕ) → List ℕ
code_text kind d rounds p max =
    cond (eqb (list_refusal kind d rounds p max) 0) (listing_of kind d rounds p max) (refusal_line (list_refusal kind d rounds p max))
