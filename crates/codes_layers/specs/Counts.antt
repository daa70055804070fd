-- How many vertices and edges a code has, by the formulas of document 01.
use Rattle.std.specs.Prelude.{ℕ, ◌+◌, ◌-◌, ◌*◌, ◌/◌, cond, eqb, leb}

-- Six builders, Vertices: d + 1 for kind 1, d(d+1) a layer for 2, 3, 4, ((d+1)/2)(d+1) a layer for 5, 6.
unfoldable pub layer_vertex_num : (kind d : ℕ) → ℕ
layer_vertex_num kind d = cond (eqb kind 1) (d + 1) (cond (leb kind 4) (d * (d + 1)) ((d + 1) / 2 * (d + 1)))

-- Six builders, Vertices, and Kinds, sentence 2: the vertices of rounds + 1 layers.
abbrev pub vertex_num : (kind d rounds : ℕ) → ℕ
vertex_num kind d rounds = (rounds + 1) * layer_vertex_num kind d

-- Six builders, Edges, sentence 1: d for kind 1, d² + (d−1)² a layer for 2, 3, 4, d² a layer for 5, 6.
unfoldable pub layer_edge_num : (kind d : ℕ) → ℕ
layer_edge_num kind d = cond (eqb kind 1) d (cond (leb kind 4) (d * d + (d - 1) * (d - 1)) (d * d))

-- Six builders, Edges, sentence 2: each gap between layers adds d(d−1) for kind 3,
-- d(d−1) + d(d−2) + (d−1)² + (d−1)(d−2) for kind 4, one per vertex of a layer for kind 6.
unfoldable pub gap_edge_num : (kind d : ℕ) → ℕ
gap_edge_num kind d =
    cond (eqb kind 3) (d * (d - 1))
    (cond (eqb kind 4) (d * (d - 1) + d * (d - 2) + (d - 1) * (d - 1) + (d - 1) * (d - 2))
    (cond (eqb kind 6) (layer_vertex_num kind d) 0))

-- Six builders, Edges, and Kinds, sentence 2: the edges of rounds + 1 layers and of the gaps between them.
abbrev pub edge_num : (kind d rounds : ℕ) → ℕ
edge_num kind d rounds = (rounds + 1) * layer_edge_num kind d + rounds * gap_edge_num kind d
