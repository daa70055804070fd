-- `columns::questions::all_pass` meets its contract. Invariant: whether the elements passed so far pass the test. Assumes nothing.
use mathlib.Core.Path.{refl, sym, ap, ◌∙◌}
use mathlib.Core.Bool.{Bool, ◌&&◌}
use native.Mathlib.Omega.{arith}
use lib.ListN.{take, get_or}
use Rattle.columns.specs.Questions.{all}
use Rattle.columns.proofs.Tests.{all-next, all_ends}
use Rattle.columns.proofs.questions.all_pass.Goals as goal

pub loop-x-init : goal.loop-x-init
unfolding all
loop-x-init g c = λ passes h. refl

pub loop-x-preserved : goal.loop-x-preserved
loop-x-preserved g c = λ passes h.
    let at = c.loop-x in
    let items = take c.min.result c.args.s.now in
    let x = c.x-item.result in
    (λ i. at.invariant passes h i && (h x c.test-pass.result c.test-pass.ensures ∙ ap passes c.x-item.is) i)
    ∙ sym (all-next passes items x at.x-index (omega arith))

pub returns : goal.returns
returns g c = λ passes h. c.loop-x.invariant passes h ∙ all_ends passes c.args.s.now c.args.n c.min.result c.loop-x.x-index c.min.ensures (omega arith)
