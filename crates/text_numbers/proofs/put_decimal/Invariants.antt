-- `text_numbers::put_decimal` meets its contract. Invariant: with the digits that are left the text is what is to be put. Assumes nothing.
use mathlib.Core.Path.{◌≡◌}
use Prim.Native.Nat.{◌+◌, ◌≤◌}
use lib.ListN.{length}
use lib.Seq.{sets}
use Rattle.text_numbers.specs.Text.{digits_of, decimal}
use Rattle.text_numbers.proofs.put_decimal.Given as goal

abbrev pub invariant-loop-k : goal.invariant-loop-k
invariant-loop-k l =
    (l.k ≤ 10) × (length l.text ≡ length l.initial.text) × (sets l.text l.next (digits_of l.k l.n) ≡ sets l.initial.text l.at (decimal l.n)) × (l.next + l.k ≡ l.at + length (decimal l.n)) × (l.next + l.k ≤ l.at + 10)
