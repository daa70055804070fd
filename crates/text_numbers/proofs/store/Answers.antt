-- `text_numbers::store` meets its contract: the byte is stored where there is a place, and past the end `set` changes nothing either. Assumes nothing.
use mathlib.Core.Path.{sym}
use lib.Seq.{set_out}
use Rattle.text_numbers.proofs.store.Goals as goal

pub returns-else-at-text : goal.returns-else-at-text
returns-else-at-text c = let s = c.args in sym (set_out s.text.now s.at s.b c.if-at-text.false)
