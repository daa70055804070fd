-- `query_read_back::path_length` meets its contract. Invariant: j steps were read back, to v. Assumes nothing.
use mathlib.Core.Path.{sym}
use native.Mathlib.Omega.{arith}
use lib.ListN.{length}
use Rattle.query_relaxing.specs.Ready.{state_of}
use Rattle.query_read_back.proofs.Back.{entry_none, entry_some, count_none, count-more, count-end}
use Rattle.query_read_back.proofs.path_length.Goals as goal

pub returns-in_default : goal.returns-in_default
returns-in_default c w =
    let a = c.args in
    let at = c.loop-j in
    let s = state_of a.status.now w a.previous.now in
    omega (arith, at.invariant w, count_none s a.a.0 (length a.status.now) at.j at.v.0 c.loop-j-test.true (entry_none _ (sym (c.in_default.ensures w))))

pub loop-j-preserved : goal.loop-j-preserved
loop-j-preserved c w =
    let a = c.args in
    let at = c.loop-j in
    let s = state_of a.status.now w a.previous.now in
    omega (arith, at.invariant w, count-more s a.a.0 (length a.status.now) at.j at.v.0 _ c.loop-j-test.true (entry_some _ _ (sym (c.in-Some.ensures w))))

pub returns : goal.returns
returns c w =
    let a = c.args in
    let at = c.loop-j in
    omega (arith, at.invariant w, count-end (state_of a.status.now w a.previous.now) a.a.0 (length a.status.now) at.j at.v.0 (omega arith))
