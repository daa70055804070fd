-- `weights_calls::known::known` meets its contract: a place found has what p's weight gives since the table is right, and each place written gets a probability and what its weight gives. Assumes nothing.
use mathlib.Core.Path.{◌≡◌, ap, ◌∙◌}
use native.Mathlib.Omega.{arith}
use lib.ListN.{length, get_or, length-set}
use lib.Ieee.{Float, nan}
use Prim.Native.Nat.{◌+◌}
use Rattle.weights_recipe.specs.Logarithm.{edge_weight}
use Rattle.weights_calls.proofs.Tables.{known_at, known-set}
use Rattle.weights_calls.proofs.known.known.Goals as goal

pub returns-then-at-lt-PLACES : goal.returns-then-at-lt-PLACES
returns-then-at-lt-PLACES g c = λ of_weight h t.
    let x = c.index-known-at.result in
    let found = known_at (λ (q : Float). of_weight (edge_weight q)) c.args.known_p.now c.args.known.now t c.find-at.result x nan c.if-at-lt-PLACES.true in
    (c.index-known-at.is ∙ found ∙ ap of_weight (c.find-at.ensures c.if-at-lt-PLACES.true), t)

pub returns : goal.returns
returns g c = λ of_weight h t.
    let f = λ (q : Float). of_weight (edge_weight q) in
    let k = c.place_of-k.result in
    let ps = c.args.known_p.now in
    let values = c.args.known.now in
    let x = c.index-known-k.result in
    let e = h c.args.p c.compute-value.result c.compute-value.ensures in
    let moved = known-set f ps values t (k + 1) (get_or ps k nan) x (c.index-known-k.is ∙ known_at f ps values t k x nan (omega (arith, c.place_of-k.ensures))) in
    (e, known-set f _ _ moved k c.args.p c.compute-value.result e)
