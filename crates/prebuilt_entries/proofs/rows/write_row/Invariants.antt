-- `prebuilt_entries::rows::write_row` meets its contract. Invariant: the first u entries are those of the row, and the others are as they were. Assumes nothing.
use mathlib.Core.Path.{◌≡◌}
use lib.Seq.{sets}
use Rattle.columns.specs.Lists.{each}
use Rattle.prebuilt_entries.specs.Entries.{row_entry}
use Rattle.prebuilt_entries.proofs.rows.write_row.Given as goal

abbrev pub invariant-loop-u : goal.invariant-loop-u
invariant-loop-u l = l.out ≡ sets l.initial.out 0 (each l.u (row_entry l.boundary l.nearest l.at l.initial.out))
