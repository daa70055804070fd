-- `text_numbers::put_field` meets its contract: the number is put where the comma ends, and has at most 10 digits. Assumes nothing.
use mathlib.Core.List.{[], ◌∷◌}
use native.Mathlib.Omega.{arith}
use Rattle.text_numbers.specs.Text.{decimal}
use Rattle.text_numbers.proofs.Putting.{both}
use Rattle.text_numbers.proofs.Sizes.{decimal_few}
use Rattle.text_numbers.proofs.put_field.Goals as goal

pub returns : goal.returns
returns c =
    let n = c.args.n in
    let z = both (0x2c ∷ []) (decimal n) c.put_byte-a.ensures c.put_decimal.ensures in
    (z, omega (arith, z.next, decimal_few n))
