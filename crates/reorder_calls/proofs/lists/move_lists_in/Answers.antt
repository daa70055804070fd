-- `reorder_calls::lists::move_lists_in` meets its contract: the lists are gathered from a copy of all that the lists hold. Assumes nothing.
use mathlib.Core.Path.{ap, ◌∙◌}
use mathlib.Core.List.{List}
use Prim.Native.Nat.{ℕ, ◌≤◌}
use native.Mathlib.Omega.{arith}
use lib.ListN.{length, take, length-take}
use Rattle.columns.specs.Lists.{over}
use Rattle.columns.proofs.Columns.{sets_over}
use Rattle.reorder_calls.proofs.Moving.{lists_copy}
use Rattle.reorder_calls.proofs.lists.move_lists_in.Goals as goal

pub returns : goal.returns
returns c =
    let a = c.args in
    let e = c.list_starts-sum.ensures.0 in
    let sum = c.list_starts-sum.result in
    let long : sum ≤ length a.numbers.now = omega arith in
    let room : sum ≤ length a.scratch.now = omega arith in
    record {
      numbers_after = c.gather_lists.ensures ∙ ap (λ (l : List ℕ). over l a.numbers.now) (lists_copy _ _ _ _ c.requires.order.0 e long room c.copy.ensures);
      scratch_after = c.copy.ensures ∙ sets_over a.scratch.now (take sum a.numbers.now) (omega (arith, length-take sum a.numbers.now)) ∙ ap (λ (n : ℕ). over (take n a.numbers.now) a.scratch.now) e;
    }
