-- `weights_calls::known::find` meets its contract: equal probabilities have equal weights. Assumes nothing.
use mathlib.Core.Path.{sym, subst}
use native.Mathlib.Omega.{arith}
use lib.Dec.{T}
use lib.Ieee.{nan, binary64, fits}
use lib.ListN.{get_or}
use Prim.Native.Nat.{◌+◌}
use Rattle.weights_calls.proofs.Equal.{equal_weights}
use Rattle.weights_calls.proofs.known.find.Goals as goal

pub returns-then-p-known_p : goal.returns-then-p-known_p
returns-then-p-known_p c =
    let s = c in
    let k = c.place_of-k.result in
    λ h. sym (equal_weights s.args.p (get_or s.args.known_p.now k nan) ((let it : T (fits binary64 s.args.p) = subst T (sym s.well_formed.0.1) tt in it)) (c.shared_slice_known-2-1.given k) c.if-p-known_p.true)

pub returns-then-p-known_p-2 : goal.returns-then-p-known_p-2
returns-then-p-known_p-2 c =
    let s = c in
    let k = c.place_of-k.result + 1 in
    λ h. sym (equal_weights s.args.p (get_or s.args.known_p.now k nan) ((let it : T (fits binary64 s.args.p) = subst T (sym s.well_formed.0.1) tt in it)) (c.shared_slice_known-3-1.given k) c.if-p-known_p-2.true)

pub returns : goal.returns
returns c = λ h. absurd (omega arith)
