-- `query_search::write_weights` meets its contract. Invariant: the first v rows are written. Assumes nothing.
use mathlib.Core.Path.{◌≡◌, refl, ap, ◌∙◌}
use native.Mathlib.Omega.{arith}
use mir.Facts.{to_z-of_z}
use borrow.Author.Rules.{sfits_of}
use lib.ListN.{length, set}
use lib.Seq.{sets}
use Rattle.columns.proofs.Widths.{table_width}
use Rattle.columns.specs.Lists.{each}
use Rattle.columns.proofs.Counting.{store-each}
use Rattle.engine_walks.specs.Answers.{table_weight}
use Rattle.query_relaxing.specs.Ready.{state_of}
use Rattle.query_search.proofs.write_weights.Goals as goal

pub loop-v-init : goal.loop-v-init
unfolding each
loop-v-init c p = refl

pub loop-v-preserved : goal.loop-v-preserved
loop-v-preserved c p =
    let a = c.args in
    let at = c.loop-v in
    ap (λ z. set at.out at.v z) (to_z-of_z {w = table_width} (sfits_of c.row_weight.type_inv)) ∙ (λ i. set (at.invariant p i) at.v (c.row_weight.ensures i))
    ∙ store-each a.out.now at.v (table_weight (state_of a.status.now a.weight.now p))

pub returns : goal.returns
returns c p =
    let a = c.args in
    let e : c.loop-v.v ≡ length a.status.now = omega arith in c.loop-v.invariant p ∙ ap (λ k. sets a.out.now 0 (each k (table_weight (state_of a.status.now a.weight.now p)))) e
