-- `query_search::sources::own_previous` meets its contract. Invariant: the first v places are written. Assumes nothing.
use mathlib.Core.Path.{◌≡◌, refl, ap, ◌∙◌}
use native.Mathlib.Omega.{arith}
use lib.ListN.{length, set}
use lib.Seq.{sets}
use Rattle.columns.specs.Lists.{each}
use Rattle.columns.proofs.Counting.{store-each, whole, length-each}
use Rattle.query_search.proofs.sources.own_previous.Goals as goal

pub loop-v-init : goal.loop-v-init
unfolding each
loop-v-init c = refl

pub loop-v-preserved : goal.loop-v-preserved
loop-v-preserved c = let at = c.loop-v in ap (λ l. set l at.v at.v) at.invariant ∙ store-each c.args.previous.now at.v (λ v. v)

pub returns : goal.returns
returns c =
    let p = c.args.previous.now in
    let n = length p in
    let e : c.loop-v.v ≡ n = omega arith in c.loop-v.invariant ∙ ap (λ k. sets p 0 (each k (λ v. v))) e ∙ whole p (each n (λ v. v)) (length-each n (λ v. v))
