-- What the functions of this crate and of those after it ask of their callers. No call of document 01 cites it.
use Rattle.std.specs.Prelude.{ℕ, ◌≤◌, ◌≡◌, true, List, length}
use Rattle.columns.specs.Limits.{vertex_limit}
use Rattle.columns.specs.Questions.{all_below}
use Rattle.reorder_orders.specs.Order.{none_twice}

-- Questions at the door, 11, 13 and 14, as far as the functions need it: the list names each of its places once.
pub record IsOrder (order : List ℕ) : Type 0 where
  pub few : length order ≤ vertex_limit
  pub below : all_below (length order) order ≡ true
  pub once : none_twice order ≡ true
