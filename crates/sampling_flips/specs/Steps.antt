-- What the flips ask of their callers. No call of document 01 cites it.
use Rattle.std.specs.Prelude.{ℕ, ◌≤◌, ◌<◌, List, length, get_or}

-- Questions at the door, 6 and 7, as far as the flips need it: e edges with ends below v, and v boundary and defect bytes.
pub record Fits (v e : ℕ) (a b boundary defect : List ℕ) : Type 0 where
  pub long_a : e ≤ length a
  pub long_b : e ≤ length b
  pub in_a : (k : ℕ) → k < e → get_or a k 0 < v
  pub in_b : (k : ℕ) → k < e → get_or b k 0 < v
  pub long_boundary : v ≤ length boundary
  pub long_defect : v ≤ length defect
