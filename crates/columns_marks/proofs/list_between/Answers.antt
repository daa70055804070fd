-- `columns_marks::list_between` meets its contract: before turn k the numbers below k whose byte is set are listed. Assumes nothing.
use borrow.Author.Rules.{rules}
use mathlib.Core.Path.{◌≡◌, refl, ap, ◌∙◌}
use Prim.Native.Nat.{ℕ}
use native.Mathlib.Omega.{arith}
use mathlib.Core.Bool.{Bool}
use lib.ListN.{get_or, length}
use Rattle.columns.specs.Lists.{when}
use lib.Seq.{sets, length-sets}
use Rattle.columns_marks.specs.Marks.{is_set, listed}
use Rattle.columns_marks.proofs.Listing.{listed-few, listed-count, listed-store}
use Rattle.columns_marks.proofs.list_between.Goals as goal

pub loop-k-init : goal.loop-k-init
loop-k-init c = (search rules, search rules, refl, λ l e. e)

pub push_if-count-requires : goal.push_if-count-requires
push_if-count-requires c =
    let s = c in
    let at = c.loop-k in
    let few = listed-few s.args.column.now at.k in
    (omega (arith, at.invariant.1, few), omega (arith, at.invariant.1, few))

pub loop-k-preserved : goal.loop-k-preserved
loop-k-preserved c =
    let column = c.args.column.now in
    let at = c.loop-k in
    let tested = c.is_set-ok.ensures in
    let push = c.push_if-count.ensures in (
      omega arith,
      listed-count column at.k tested at.invariant.1 push.0,
      ap length (push.1 ∙ ap (λ (t : Bool). sets at.list at.count (when t at.k)) tested) ∙ length-sets at.list at.count (when (is_set (get_or column at.k 0)) at.k) ∙ at.invariant.2,
      λ l e. listed-store column at.k l tested at.invariant.1 (at.invariant.3 l e) push.1,
    )

pub shape_of-list : goal.shape_of-list
shape_of-list c = c.loop-k.invariant.2

pub returns : goal.returns
returns c =
    let s = c.args in
    let at = c.loop-k in
    let e : at.k ≡ s.to = omega arith in
    (at.invariant.1 ∙ ap (λ (n : ℕ). length (listed n s.column.now)) e, λ l f. at.invariant.3 l f ∙ ap (λ (n : ℕ). sets l 0 (listed n s.column.now)) e)
