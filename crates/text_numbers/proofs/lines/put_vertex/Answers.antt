-- `text_numbers::lines::put_vertex` meets its contract: each part is put where the one before it ends, and joined they are the line. Assumes nothing.
use mathlib.Core.List.{[], ◌∷◌}
use Prim.Native.Nat.{ℕ}
use native.Mathlib.Omega.{arith}
use lib.ListN.{get_or}
use Rattle.text_numbers.proofs.Putting.{line_end, field, lettered}
use Rattle.text_numbers.proofs.lines.put_vertex.Goals as goal

pub overflow_cast-boundary : goal.overflow_cast-boundary
overflow_cast-boundary c = omega (arith, c.shared_slice_known-2-1.given c.args.v.0)

pub put_field-c-requires : goal.put_field-c-requires
put_field-c-requires c = omega (arith, c.put_field-b.ensures.1, c.put_byte-a.ensures.next)

pub put_byte-requires : goal.put_byte-requires
put_byte-requires c = omega (arith, c.put_field-c.ensures.1, c.put_field-b.ensures.1, c.put_byte-a.ensures.next)

pub returns : goal.returns
returns c =
    let s = c.args in
    let b : ℕ = get_or s.boundary.now s.v.0 0 in
    lettered 0x76 (s.v.0 ∷ b ∷ []) c.put_byte-a.ensures (field s.v.0 (b ∷ []) c.put_field-b.ensures.0 (field b [] c.put_field-c.ensures.0 (line_end c.put_byte.ensures)))
