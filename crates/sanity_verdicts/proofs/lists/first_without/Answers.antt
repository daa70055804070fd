-- `sanity_verdicts::lists::first_without` meets its contract. Invariant: the first v vertices have edges. Assumes nothing.
use mathlib.Core.Path.{◌≡◌, sym, ap, ◌∙◌}
use native.Mathlib.Omega.{arith}
use borrow.Author.Tests.{eq-eqb}
use lib.ListN.{get_or}
use Rattle.std.specs.Prelude.{Some, is_some}
use Rattle.sanity_verdicts.specs.declared.Finding.TheVariants.{NoEdges}
use Rattle.sanity_verdicts.specs.Sanity.{vertex_numbered}
use Rattle.sanity_verdicts.proofs.Scans.{found_true, first_stop}
use Rattle.sanity_verdicts.proofs.lists.first_without.Invariants.{finding}
use Rattle.sanity_verdicts.proofs.lists.first_without.Goals as goal

pub returns-then-lengths-v-eq0 : goal.returns-then-lengths-v-eq0
returns-then-lengths-v-eq0 c =
    let s = c.args in
    let l = c.loop-v in
    let f = finding s.lengths.now in
    let e : f l.v ≡ Some (NoEdges (vertex_numbered l.v)) = found_true _ _ (eq-eqb (get_or s.lengths.now l.v 0) 0 c.if-lengths-v-eq0.true) in
    sym (first_stop f s.n l.v (omega arith) l.invariant (ap is_some e) ∙ e)
