-- The weights of a code's edges.
use Rattle.std.specs.Prelude.{ℕ, ◌*◌, List, get_or}
use Rattle.columns.specs.Lists.{each}

-- Weights, get_initializer: the weight of each of e edges: twice its half weight.
unfoldable pub weights : (e : ℕ) (half_weight : List ℕ) → List ℕ
weights e half_weight = each e (λ k. 2 * get_or half_weight k 0)
