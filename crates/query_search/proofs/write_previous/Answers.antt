-- `query_search::write_previous` meets its contract. Invariant: the first v rows are written. Assumes nothing.
use mathlib.Core.Path.{◌≡◌, refl, ap, ◌∙◌}
use native.Mathlib.Omega.{arith}
use lib.ListN.{length, set}
use lib.Seq.{sets}
use Rattle.columns.specs.Lists.{each}
use Rattle.columns.proofs.Counting.{store-each}
use Rattle.engine_walks.specs.Answers.{table_previous}
use Rattle.query_relaxing.specs.Ready.{state_of}
use Rattle.query_search.proofs.write_previous.Goals as goal

pub loop-v-init : goal.loop-v-init
unfolding each
loop-v-init c w = refl

pub loop-v-preserved : goal.loop-v-preserved
loop-v-preserved c w =
    let a = c.args in
    let at = c.loop-v in
    (λ i. set (at.invariant w i) at.v (c.row_previous.ensures i)) ∙ store-each a.out.now at.v (table_previous (state_of a.status.now w a.previous.now))

pub returns : goal.returns
returns c w =
    let a = c.args in
    let e : c.loop-v.v ≡ length a.status.now = omega arith in c.loop-v.invariant w ∙ ap (λ k. sets a.out.now 0 (each k (table_previous (state_of a.status.now w a.previous.now)))) e
