-- `text_input::fields::digits_at` meets its contract. Invariant: the digits from `at` on are n more than those from at + n on. Assumes nothing.
use mathlib.Core.Path.{◌≡◌}
use Prim.Native.Nat.{◌+◌}
use lib.ListN.{drop}
use Rattle.text_input.specs.Line.{digits}
use Rattle.text_input.proofs.fields.digits_at.Given as goal

abbrev pub invariant-loop-n : goal.invariant-loop-n
invariant-loop-n l = digits (drop l.at l.text) ≡ l.n + digits (drop (l.at + l.n) l.text)
