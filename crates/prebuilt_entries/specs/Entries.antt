-- An entry of a row in the Rust's `PrebuiltCompleteGraph`: the least weight to a peer, without virtual vertices and without edges in the middle.
use Rattle.std.specs.Prelude.{ℕ, suc, ◌+◌, Bool, false, not, cond, ◌||◌, List, get_or, ltb, eqb, ℤ, pos, negsuc}
use Rattle.engine_walks.specs.Answers.{weight_in}

-- complete_graph.rs, `PrebuiltCompleteGraph`: a weight of 0 or more counts one more than itself, -1 for none counts 0.
abbrev pub rank : ℤ → ℕ
rank (pos k) = suc k
rank (negsuc n) = 0

-- complete_graph.rs, "remove edges in the middle": both ends have a boundary weight,
-- and by way of the boundary they are nearer to one another than the edge of weight x.
abbrev pub in_the_middle : (own peer x : ℤ) → Bool
in_the_middle (pos a) (pos b) (pos k) = ltb (a + b) k
in_the_middle (pos a) (pos b) (negsuc n) = false
in_the_middle (pos a) (negsuc n) x = false
in_the_middle (negsuc n) peer x = false

-- Records, on vertices: a vertex is virtual when its boundary byte is not 0.
abbrev pub is_virtual : ℕ → Bool
is_virtual byte = not (eqb byte 0)

-- complete_graph.rs, `PrebuiltCompleteGraph`: an entry of a row: -1 where there is no edge, since it is hidden, or in the middle, or x is -1.
abbrev pub entry_by : (hidden : Bool) (own peer x : ℤ) → ℤ
entry_by hidden own peer x = cond hidden (negsuc 0) (cond (in_the_middle own peer x) (negsuc 0) x)

-- complete_graph.rs, `PrebuiltCompleteGraph`: the entry of u in the row of v: no edge leads from or to a virtual vertex, nor from v to itself.
abbrev pub row_entry : (bytes : List ℕ) (nearest : List ℤ) (v : ℕ) (weights : List ℤ) (u : ℕ) → ℤ
row_entry bytes nearest v weights u =
    entry_by (is_virtual (get_or bytes v 0) || (is_virtual (get_or bytes u 0) || eqb u v)) (weight_in nearest v) (weight_in nearest u) (weight_in weights u)
