-- The p of each edge of a new code: document 01, "Weights".
use Rattle.std.specs.Prelude.{ℕ, cond, List, map, eqb, Float, Option, None}
use Rattle.columns.specs.Places.{position_at}
use Rattle.columns.specs.declared.VisualizePosition.{VisualizePosition}
use Rattle.codes_writers.specs.Edges.{Ends, positions_i, positions_j, positions_t}
use Rattle.codes_layers.specs.Codes.{edges_of, vertices_of}
use Rattle.weights_diagonal.specs.Diagonal.{edge_probability, new_diagonal}

-- Six builders, on edge order: the position of a vertex of a code.
unfoldable pub position_of : (kind d rounds v : ℕ) → VisualizePosition
position_of kind d rounds v = position_at (positions_i (vertices_of kind d rounds)) (positions_j (vertices_of kind d rounds)) (positions_t (vertices_of kind d rounds)) v

-- Weights, on the diagonal probability, sentence 1: the p of each edge:
-- the diagonal probability, where it is a number, on edges whose ends lie at Manhattan distance above 1.
unfoldable pub probabilities : (kind d rounds : ℕ) (p : Float) (diagonal : Option Float) → List Float
probabilities kind d rounds p diagonal =
    map (λ (e : Ends). edge_probability p diagonal (position_of kind d rounds e.0) (position_of kind d rounds e.1)) (edges_of kind d rounds)

-- Weights, on the diagonal probability, sentence 2: `new` gives kind 4 the diagonal probability p/3; the other kinds have none.
abbrev pub diagonal_of : (kind : ℕ) (p : Float) → Option Float
diagonal_of kind p = cond (eqb kind 4) (new_diagonal p) None
