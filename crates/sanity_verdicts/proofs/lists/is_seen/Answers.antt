-- `sanity_verdicts::lists::is_seen` meets its contract: where the last place with the number is known, it decides. Assumes nothing.
use Prim.Native.Nat.{◌+◌}
use Rattle.sanity_verdicts.proofs.Stamping.{seen_last}
use Rattle.sanity_verdicts.proofs.lists.is_seen.Goals as goal

pub returns-then-here-known : goal.returns-then-here-known
returns-then-here-known c =
    let s = c.args in
    let n = s.numbers.now in
    let here = s.start + s.i in
    seen_last n s.start s.i s.x.0 _ c.requires.i_in_bounds.1 (c.requires.stamped.1.at here c.if-here-known.true)
