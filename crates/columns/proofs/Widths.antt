-- The widths of a stored weight and of a weight in a table, `Weight` and `TableWeight` of src/lib.rt: proofs about their bits cite these names.
-- What a table's weight holds is below `table_bound` (specs/Limits.antt). Assumes nothing.
use mir.Syntax.{Width, w32}

abbrev pub weight_width : Width
weight_width = w32

abbrev pub table_width : Width
table_width = w32
