-- What is read off a settled state: the table, the path, the least weights from the left and the crossing weight.
use Rattle.std.specs.Prelude.{Bool, cond, ◌&&◌, List, [], ◌∷◌, ◌++◌, map, ℕ, zero, suc, ◌-◌, get_or, eqb, ℤ, pos, negsuc}
use Rattle.std.proofs.Math.Option.{Option, some, none}
use Rattle.columns.specs.Lists.{each}
use Rattle.engine_walks.specs.Graph.{Graph, boundary_at}
use Rattle.engine_walks.specs.Settling.{State, status_at, weight_at, previous_at, first_least, settled}

-- Engine, Settling, sentence 3: a is the one source.
abbrev pub only : ℕ → ℕ → Bool
only a v = eqb v a

-- Engine, Crossing, sentence 1: every left vertex is a source.
abbrev pub is_left : Graph → ℕ → Bool
is_left g v = eqb (boundary_at g v) 1

-- Engine, Table: whether v was taken.
abbrev pub taken : State → ℕ → Bool
taken s v = eqb (status_at s v) 2

-- Engine, Table: the weight in the row of v; `negsuc 0` is -1.
abbrev pub table_weight : State → ℕ → ℤ
table_weight s v = cond (taken s v) (pos (weight_at s v)) (negsuc 0)

-- Engine, Table: the previous vertex in the row of v.
abbrev pub table_previous : State → ℕ → ℕ
table_previous s v = cond (taken s v) (previous_at s v) 0

-- Engine, Table: both columns.
pub record TableColumns : Type 0 where
  pub weights : List ℤ
  pub previous : List ℕ

-- Engine, Table: the weight in row v of a weight column.
abbrev pub weight_in : List ℤ → ℕ → ℤ
weight_in weights v = get_or weights v (negsuc 0)

-- Engine, Table, after settling from a with an end or none.
unfoldable pub table : (g : Graph) (w : ℕ → ℕ) (a : ℕ) (end : Option ℕ) → TableColumns
table g w a end = record {
  weights = each g.vertices (table_weight (settled g w (only a) end));
  previous = each g.vertices (table_previous (settled g w (only a) end));
}

-- Engine, Path, sentence 2: the entry of v, its previous vertex or none.
abbrev pub entry : State → ℕ → Option ℕ
entry s v = cond (taken s v) (some (previous_at s v)) none

-- Engine, Path, sentence 2: v behind the vertices that lead to the one in its entry.
abbrev pub behind : (ℕ → List ℕ) → Option ℕ → ℕ → List ℕ
behind back none v = []
behind back (some p) v = back p ++ (v ∷ [])

-- Engine, Path, sentence 2: the vertices after a up to v, found backwards from v in at most n steps.
unfoldable pub read_back_of : (s : State) (a n v : ℕ) → List ℕ
read_back_of s a zero v = []
read_back_of s a (suc n) v = cond (eqb v a) [] (behind (read_back_of s a n) (entry s v) v)

-- Engine, Path, sentence 1: the weight of the last step to v.
unfoldable pub step_into : State → ℕ → ℕ
step_into s v = weight_at s v - weight_at s (previous_at s v)

-- Engine, Path, sentence 1: vertices, the weight of the step into each, and the total.
pub record FoundPath : Type 0 where
  pub vertices : List ℕ
  pub steps : List ℕ
  pub total : ℕ

-- Engine, Path, sentences 1 and 2: from a to b, in a settled state.
unfoldable pub path_in : (g : Graph) (s : State) (a b : ℕ) → FoundPath
path_in g s a b = record {
  vertices = read_back_of s a g.vertices b;
  steps = map (step_into s) (read_back_of s a g.vertices b);
  total = weight_at s b;
}

-- Engine, Path, after settling from a with the end b; questions at the door, 17: none where b was not taken.
unfoldable pub path : (g : Graph) (w : ℕ → ℕ) (a b : ℕ) → Option FoundPath
path g w a b = cond (taken (settled g w (only a) (some b)) b) (some (path_in g (settled g w (only a) (some b)) a b)) none

-- Engine, Crossing: the state after settling from the left with no end.
unfoldable pub from_left : (g : Graph) (w : ℕ → ℕ) → State
from_left g w = settled g w (is_left g) none

-- Engine, Crossing, sentence 2: the weight column.
unfoldable pub least_from_left : (g : Graph) (w : ℕ → ℕ) → List ℤ
least_from_left g w = each g.vertices (table_weight (from_left g w))

-- Engine, Crossing, sentence 1: the right vertex of least weight among those that were taken.
unfoldable pub nearest_right : (g : Graph) (w : ℕ → ℕ) → Option ℕ
nearest_right g w = first_least (λ v. eqb (boundary_at g v) 2 && taken (from_left g w) v) (weight_at (from_left g w)) g.vertices

-- Engine, Crossing, sentence 1: the weight of a vertex, if there is one.
abbrev pub weight_of : State → Option ℕ → Option ℕ
weight_of s none = none
weight_of s (some y) = some (weight_at s y)

-- Engine, Crossing, sentence 1: the crossing weight; questions at the door, 18: none where no right vertex was taken.
unfoldable pub crossing : (g : Graph) (w : ℕ → ℕ) → Option ℕ
crossing g w = weight_of (from_left g w) (nearest_right g w)
