-- `query_crossing_answer::nearest_right` meets its contract. Invariant: the least weight among the first v vertices. Assumes nothing.
use mathlib.Core.Path.{◌≡◌, sym, ap, ◌∙◌}
use mathlib.Core.Bool.{cond, ◌&&◌}
use native.Mathlib.Omega.{arith}
use lib.ListN.{length, get_or}
use lib.Dec.{eqb}
use Rattle.query_relaxing.specs.Ready.{state_of}
use Rattle.engine_walks.specs.Answers.{taken}
use Rattle.query_crossing_answer.specs.Least.{lesser_weight}
use Rattle.query_crossing_answer.proofs.Nearest.{best, best_none, best-next}
use Rattle.query_crossing_answer.proofs.nearest_right.Goals as goal

pub loop-v-init : goal.loop-v-init
loop-v-init c p = let s = state_of c.args.status.now c.args.weight.now p in sym (best_none s (λ u. eqb (get_or c.args.boundary.now u 0) 2 && taken s u))

pub loop-v-preserved : goal.loop-v-preserved
loop-v-preserved c p =
    let a = c.args in
    let s = state_of a.status.now a.weight.now p in
    let v = c.loop-v.v in
    c.nearer-best.ensures ∙ ap (λ b. cond (eqb (get_or a.boundary.now v 0) 2 && eqb (get_or a.status.now v 0) 2) (lesser_weight (get_or a.weight.now v 0) b) b) (c.loop-v.invariant p)
    ∙ best-next s (λ u. eqb (get_or a.boundary.now u 0) 2 && taken s u) v

pub returns : goal.returns
returns c p =
    let s = state_of c.args.status.now c.args.weight.now p in
    let e : c.loop-v.v ≡ length c.args.status.now = omega arith in c.loop-v.invariant p ∙ ap (best s (λ u. eqb (get_or c.args.boundary.now u 0) 2 && taken s u)) e
