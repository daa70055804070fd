-- `text_numbers::lines::put_one` meets its contract: each part is put where the one before it ends, and joined they are the line. Assumes nothing.
use mathlib.Core.List.{[], ◌∷◌}
use native.Mathlib.Omega.{arith}
use Rattle.text_numbers.proofs.Putting.{line_end, field, lettered}
use Rattle.text_numbers.proofs.lines.put_one.Goals as goal

pub put_byte-requires : goal.put_byte-requires
put_byte-requires c = omega (arith, c.put_field-b.ensures.1, c.put_byte-a.ensures.next)

pub returns : goal.returns
returns c =
    let n = c.args.n in
    lettered _ (n ∷ []) c.put_byte-a.ensures (field n [] c.put_field-b.ensures.0 (line_end c.put_byte.ensures))
