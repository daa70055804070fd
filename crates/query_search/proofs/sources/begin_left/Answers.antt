-- `query_search::sources::begin_left` meets its contract. Invariant: the bytes of the first v vertices are written. Assumes nothing.
use mathlib.Core.Path.{◌≡◌, refl, ap, ◌∙◌}
use Prim.Native.Nat.{ℕ}
use native.Mathlib.Omega.{arith}
use lib.ListN.{length, get_or, set}
use lib.Seq.{sets}
use Rattle.columns.specs.Lists.{each}
use Rattle.columns.proofs.Counting.{store-each, whole, length-each}
use Rattle.engine_walks.specs.Lists.{delta}
use Rattle.query_search.proofs.sources.begin_left.Goals as goal

pub loop-v-init : goal.loop-v-init
unfolding each
loop-v-init c = refl

pub loop-v-preserved : goal.loop-v-preserved
loop-v-preserved c =
    let a = c.args in
    let at = c.loop-v in
    (λ i. set (at.invariant i) at.v (c.left_mark.ensures i)) ∙ store-each a.status.now at.v (λ v. delta (get_or a.boundary.now v 0) 1)

pub returns : goal.returns
returns c =
    let a = c.args in
    let n = length a.status.now in
    let f : ℕ → ℕ = λ v. delta (get_or a.boundary.now v 0) 1 in
    let e : c.loop-v.v ≡ n = omega arith in c.loop-v.invariant ∙ ap (λ k. sets a.status.now 0 (each k f)) e ∙ whole a.status.now (each n f) (length-each n f)
