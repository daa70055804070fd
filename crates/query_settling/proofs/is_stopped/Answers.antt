-- `query_settling::is_stopped` meets its contract: the byte is tested where `stop` is a place, else both sides are false. Assumes nothing.
use mathlib.Core.Path.{sym, ap}
use mathlib.Core.Bool.{◌&&◌}
use lib.ListN.{length, get_or}
use lib.Dec.{eqb}
use borrow.Author.Tests.{lt-ltb, le-ltb}
use Rattle.query_settling.proofs.is_stopped.Goals as goal

pub returns-then-at-status : goal.returns-then-at-status
returns-then-at-status c = let s = c.args in ap (λ b. b && eqb (get_or s.status.now s.stop.0 0) 2) (sym (lt-ltb s.stop.0 (length s.status.now) c.if-at-status.true))

pub returns : goal.returns
returns c = let s = c.args in ap (λ b. b && eqb (get_or s.status.now s.stop.0 0) 2) (sym (le-ltb s.stop.0 (length s.status.now) c.if-at-status.false))
