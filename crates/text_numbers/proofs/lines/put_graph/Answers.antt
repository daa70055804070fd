-- `text_numbers::lines::put_graph` meets its contract: each part is put where the one before it ends, and joined they are the line. Assumes nothing.
use mathlib.Core.List.{[], ◌∷◌}
use Prim.Native.Nat.{ℕ}
use native.Mathlib.Omega.{arith}
use Rattle.text_numbers.proofs.Putting.{line_end, field, lettered}
use Rattle.text_numbers.proofs.lines.put_graph.Goals as goal

pub put_field-c-requires : goal.put_field-c-requires
put_field-c-requires c = omega (arith, c.put_field-b.ensures.1, c.put_byte-a.ensures.next)

pub put_field-e-requires : goal.put_field-e-requires
put_field-e-requires c = omega (arith, c.put_field-c.ensures.1, c.put_field-b.ensures.1, c.put_byte-a.ensures.next)

pub put_field-f-requires : goal.put_field-f-requires
put_field-f-requires c = omega (arith, c.put_field-e.ensures.1, c.put_field-c.ensures.1, c.put_field-b.ensures.1, c.put_byte-a.ensures.next)

pub put_field-g-requires : goal.put_field-g-requires
put_field-g-requires c = omega (arith, c.put_field-f.ensures.1, c.put_field-e.ensures.1, c.put_field-c.ensures.1, c.put_field-b.ensures.1, c.put_byte-a.ensures.next)

pub put_byte-requires : goal.put_byte-requires
put_byte-requires c = omega (arith, c.put_field-g.ensures.1, c.put_field-f.ensures.1, c.put_field-e.ensures.1, c.put_field-c.ensures.1, c.put_field-b.ensures.1, c.put_byte-a.ensures.next)

pub returns : goal.returns
returns c =
    let s = c.args in
    let k : ℕ = s.kind in
    let d : ℕ = s.d in
    let r : ℕ = s.rounds in
    let v : ℕ = s.vertices in
    let e : ℕ = s.edges in
    lettered 0x67 (k ∷ d ∷ r ∷ v ∷ e ∷ []) c.put_byte-a.ensures
    (field k (d ∷ r ∷ v ∷ e ∷ []) c.put_field-b.ensures.0
    (field d (r ∷ v ∷ e ∷ []) c.put_field-c.ensures.0
    (field r (v ∷ e ∷ []) c.put_field-e.ensures.0
    (field v (e ∷ []) c.put_field-f.ensures.0
    (field e [] c.put_field-g.ensures.0 (line_end c.put_byte.ensures))))))
