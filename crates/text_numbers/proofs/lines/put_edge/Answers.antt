-- `text_numbers::lines::put_edge` meets its contract: each part is put where the one before it ends, and joined they are the line. Assumes nothing.
use mathlib.Core.List.{[], ◌∷◌}
use Prim.Native.Nat.{ℕ}
use native.Mathlib.Omega.{arith}
use lib.ListN.{get_or}
use Rattle.text_numbers.proofs.Putting.{line_end, field, lettered}
use Rattle.text_numbers.proofs.lines.put_edge.Goals as goal

pub put_field-c-requires : goal.put_field-c-requires
put_field-c-requires c = omega (arith, c.put_field-b.ensures.1, c.put_byte-a.ensures.next)

pub put_field-d-requires : goal.put_field-d-requires
put_field-d-requires c = omega (arith, c.put_field-c.ensures.1, c.put_field-b.ensures.1, c.put_byte-a.ensures.next)

pub put_field-f-requires : goal.put_field-f-requires
put_field-f-requires c = omega (arith, c.put_field-d.ensures.1, c.put_field-c.ensures.1, c.put_field-b.ensures.1, c.put_byte-a.ensures.next)

pub put_byte-requires : goal.put_byte-requires
put_byte-requires c = omega (arith, c.put_field-f.ensures.1, c.put_field-d.ensures.1, c.put_field-c.ensures.1, c.put_field-b.ensures.1, c.put_byte-a.ensures.next)

pub returns : goal.returns
returns c =
    let s = c.args in
    let x : ℕ = get_or s.ends_a.now s.e.0 0 in
    let y : ℕ = get_or s.ends_b.now s.e.0 0 in
    let w : ℕ = get_or s.weights.now s.e.0 0 in
    lettered 0x65 (s.e.0 ∷ x ∷ y ∷ w ∷ []) c.put_byte-a.ensures
    (field s.e.0 (x ∷ y ∷ w ∷ []) c.put_field-b.ensures.0
    (field x (y ∷ w ∷ []) c.put_field-c.ensures.0
    (field y (w ∷ []) c.put_field-d.ensures.0
    (field w [] c.put_field-f.ensures.0 (line_end c.put_byte.ensures)))))
