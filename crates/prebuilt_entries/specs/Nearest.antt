-- The nearest virtual vertex of a vertex in the Rust's `PrebuiltCompleteGraph`, in the vertex's table.
use Rattle.std.specs.Prelude.{ℕ, Bool, true, false, cond, ◌&&◌, List, get_or, ltb, ℤ, pos, negsuc}
use Rattle.std.specs.Prelude as std
use Rattle.std.proofs.Math.Option.{Option, some, none}
use Rattle.engine_walks.specs.Settling.{first_least}
use Rattle.engine_walks.specs.Answers.{weight_in}
use Rattle.prebuilt_entries.specs.Entries.{is_virtual}

-- Engine, Table: whether a row has a weight, and not the -1 of a vertex that was not taken.
abbrev pub is_reached : ℤ → Bool
is_reached (pos k) = true
is_reached (negsuc n) = false

-- Engine, Table: the weight of a row, 0 in place of -1.
abbrev pub amount : ℤ → ℕ
amount (pos k) = k
amount (negsuc n) = 0

-- complete_graph.rs, `PrebuiltCompleteGraph`: the nearer of vertex u and the nearest vertex before it, if there is one; of two at the same weight the smaller.
abbrev pub nearer_of : (weights : List ℤ) (u : ℕ) → std.Option ℕ → std.Option ℕ
nearer_of weights u std.None = std.Some u
nearer_of weights u (std.Some b) = cond (ltb (amount (weight_in weights u)) (amount (weight_in weights b))) (std.Some u) (std.Some b)

-- complete_graph.rs, `PrebuiltCompleteGraph`: a vertex, if there is one, as the functions hand it on.
abbrev pub place_found : Option ℕ → std.Option ℕ
place_found none = std.None
place_found (some u) = std.Some u

-- complete_graph.rs, `PrebuiltCompleteGraph`: of the virtual vertices below n that a table reaches the one of least weight; of several the smallest.
abbrev pub nearest_in : (bytes : List ℕ) (weights : List ℤ) (n : ℕ) → Option ℕ
nearest_in bytes weights n = first_least (λ u. is_virtual (get_or bytes u 0) && is_reached (weight_in weights u)) (λ u. amount (weight_in weights u)) n

-- complete_graph.rs, `PrebuiltCompleteGraph`: the nearest virtual vertex of v in its table; a virtual vertex has none.
abbrev pub boundary_in : (bytes : List ℕ) (weights : List ℤ) (n v : ℕ) → Option ℕ
boundary_in bytes weights n v = cond (is_virtual (get_or bytes v 0)) none (nearest_in bytes weights n)

-- complete_graph.rs, `PrebuiltCompleteGraph`: the weight of a vertex of a table, -1 for none.
abbrev pub weight_to : List ℤ → Option ℕ → ℤ
weight_to weights none = negsuc 0
weight_to weights (some u) = weight_in weights u

-- complete_graph.rs, `PrebuiltCompleteGraph`: the number of a vertex, 0 for none.
abbrev pub vertex_to : Option ℕ → ℕ
vertex_to none = 0
vertex_to (some u) = u
