-- `columns::stores::load_f64` meets its contract: a place below the length is read, and at any other `get_or` gives its default, 0.0. Assumes nothing.
use mathlib.Core.Path.{sym}
use lib.ListN.{get_or-eq_default}
use lib.Ieee.{nan}
use Rattle.columns.specs.Places.{zero_float}
use Rattle.columns.proofs.Columns.{get_d_any}
use Rattle.columns.proofs.stores.load_f64.Goals as goal

pub returns-then-at-column : goal.returns-then-at-column
returns-then-at-column c = let s = c.args in get_d_any s.column.now s.at nan zero_float c.if-at-column.true

pub returns-else-at-column : goal.returns-else-at-column
returns-else-at-column c = let s = c.args in sym (get_or-eq_default s.column.now zero_float c.if-at-column.false)
