-- A table in the first places of a column. Assumes nothing.
use mathlib.Core.Path.{◌≡◌, ap, ◌∙◌}
use mathlib.Core.List.{List}
use Prim.Native.Nat.{ℕ, ◌≤◌}
use native.Mathlib.Omega.{arith}
use lib.ListN.{length, take}
use lib.Seq.{length-take-le}
use lib.IntN.{ℤ}
use Rattle.columns.specs.Lists.{over}
use Rattle.columns.proofs.Columns.{take-over, length_over}

pub cut_fits : {l : List ℤ} (weights column : List ℤ) (n : ℕ) → l ≡ over weights column → length weights ≡ n → n ≤ length column → (n ≤ length l) × (length (take n l) ≡ n) × (take n l ≡ weights)
cut_fits {l} weights column n e k h =
    let q : n ≤ length l = omega (arith, ap length e, length_over weights column (omega (arith, k, h)), h) in
    (q, length-take-le n l q, ap (take n) e ∙ take-over weights column n k)
