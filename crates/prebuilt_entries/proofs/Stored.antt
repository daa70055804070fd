-- Values stored one by one over a column. Assumes nothing.
use mathlib.Core.Path.{◌≡◌, sym, ap, ◌∙◌}
use mathlib.Core.List.{List, ◌++◌}
use Prim.Native.Nat.{ℕ, ◌≤◌}
use native.Mathlib.Omega.{arith}
use lib.ListN.{length, get_or}
use lib.Seq.{sets}
use Rattle.columns.specs.Lists.{each, over}
use Rattle.columns.proofs.Columns.{sets_over, over-past, drop-over, length_over}
use Rattle.columns.proofs.Counting.{length-each}

module _ {A : Type 0} where
  -- places from i on are as they were
  pub not_yet : (column : List A) (f : ℕ → A) (d : A) (i : ℕ) → i ≤ length column → get_or (sets column 0 (each i f)) i d ≡ get_or column i d
  not_yet column f d i h =
      ap (λ l. get_or l i d) (sets_over column (each i f) (omega (arith, length-each i f, h))) ∙ over-past (each i f) column d i (omega (arith, length-each i f))

  -- vs over ws over a column, both of the same length
  pub over-over : (vs ws column : List A) → length vs ≡ length ws → length ws ≤ length column → sets (over ws column) 0 vs ≡ over vs column
  over-over vs ws column e h =
      sets_over (over ws column) vs (omega (arith, e, h, length_over ws column h)) ∙ ap (λ l. vs ++ l) (drop-over ws column (length vs) (sym e))
