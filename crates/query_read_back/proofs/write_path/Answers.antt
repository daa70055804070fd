-- `query_read_back::write_path` meets its contract. Invariant: the path is written down to place i, and v is the vertex of place i - 1, so that there is a step back. Assumes nothing.
use mathlib.Core.Path.{◌≡◌, sym, ap, ◌∙◌, subst}
use Prim.Native.Nat.{suc, ◌-◌}
use native.Mathlib.Omega.{arith}
use lib.ListN.{length, get_or, set}
use Rattle.engine_walks.specs.Answers.{step_into}
use Rattle.query_relaxing.specs.Ready.{state_of}
use Rattle.query_read_back.proofs.Back.{Written, entry_none, entry_some, step_some, step-there, written-more}
use Rattle.query_read_back.proofs.write_path.Goals as goal

pub returns-in_default : goal.returns-in_default
returns-in_default c =
    let a = c.args in
    let at = c.loop-i in
    let s = state_of a.status.now a.weight.now a.previous.now in
    let w = subst (λ k. Written s a.a.0 (length a.status.now) a.b.0 k at.v.0 a.out_vertices.now at.out_vertices a.out_steps.now at.out_steps) (let e : at.i ≡ suc (at.i - 1) = omega arith in e) at.invariant in
    absurd (step-there s a.a.0 (length a.status.now) a.b.0 a.out_vertices.now a.out_steps.now (at.i - 1) at.v.0 at.out_vertices at.out_steps w (entry_none _ (sym (c.in_default.ensures a.weight.now))))

pub loop-i-preserved : goal.loop-i-preserved
unfolding step_into
loop-i-preserved c =
    let a = c.args in
    let at = c.loop-i in
    let n = length a.status.now in
    let i = at.i - 1 in
    let s = state_of a.status.now a.weight.now a.previous.now in
    let w = subst (λ k. Written s a.a.0 n a.b.0 k at.v.0 a.out_vertices.now at.out_vertices a.out_steps.now at.out_steps) (let e : at.i ≡ suc i = omega arith in e) at.invariant in
    let p : c.in-Some.p.0 ≡ get_or a.previous.now at.v.0 0 = step_some s a.a.0 at.v.0 _ (entry_some _ _ (sym (c.in-Some.ensures a.weight.now))) in
    let step : step_into s at.v.0 ≡ c.step_weight.result = sym (c.step_weight.ensures ∙ ap (λ x. get_or a.weight.now at.v.0 0 - get_or a.weight.now x 0) p) in
    subst (λ x. Written s a.a.0 n a.b.0 i x a.out_vertices.now (set at.out_vertices i at.v.0) a.out_steps.now (set at.out_steps i c.step_weight.result)) (sym p)
    (subst (λ x. Written s a.a.0 n a.b.0 i (get_or a.previous.now at.v.0 0) a.out_vertices.now (set at.out_vertices i at.v.0) a.out_steps.now (set at.out_steps i x)) step
    (written-more s a.a.0 n a.b.0 a.out_vertices.now a.out_steps.now i at.v.0 at.out_vertices at.out_steps w))
