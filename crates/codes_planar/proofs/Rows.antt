-- A row by the parts that are stored one after another. Assumes nothing.
use mathlib.Core.Path.{◌≡◌, refl, ap, ◌∙◌, sym}
use mathlib.Core.Bool.{Bool, true, false, cond}
use mathlib.Core.List.{List, [], ◌++◌}
use Prim.Native.Nat.{ℕ, ◌+◌, ◌-◌, ◌*◌}
use lib.Dec.{ltb}
use Rattle.columns.specs.Lists.{each}
use Rattle.codes_writers.specs.Edges.{Ends, straight_edges}
use Rattle.codes_planar.specs.Planar.{row_edges, planar_row}

-- no edges, as many as a count of 0
pub downward_edges : (b : Bool) (n bias far : ℕ) → cond b (straight_edges n bias far) [] ≡ straight_edges (cond b n 0) bias far
unfolding straight_edges each
downward_edges true n bias far = refl
downward_edges false n bias far = refl

pub row_parts : (d base row : ℕ) {n : ℕ} → n ≡ cond (ltb (row + 1) d) (d - 1) 0
    → planar_row d base row ≡ row_edges d (base + row * (d + 1)) ++ straight_edges n (base + row * (d + 1)) (d + 1)
unfolding planar_row
row_parts d base row e = ap (λ (l : List Ends). row_edges d (base + row * (d + 1)) ++ l)
    (downward_edges (ltb (row + 1) d) (d - 1) (base + row * (d + 1)) (d + 1) ∙ ap (λ (m : ℕ). straight_edges m (base + row * (d + 1)) (d + 1)) (sym e))
