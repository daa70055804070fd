-- `columns::stores::store_f64` meets its contract: a place below the length is set, and at any other `set` changes nothing. Assumes nothing.
use mathlib.Core.Path.{sym}
use lib.Seq.{set_out}
use Rattle.columns.proofs.stores.store_f64.Goals as goal

pub returns-else-at-column : goal.returns-else-at-column
returns-else-at-column c = let s = c.args in sym (set_out s.column.now s.at s.value c.if-at-column.false)
