-- `weights_calls::store_by_table` meets its contract. Invariant: the half weights of the first i edges are stored, and the table is right. Assumes nothing.
use mathlib.Core.Path.{◌≡◌, ap, ◌∙◌}
use mathlib.Core.List.{map}
use native.Mathlib.Omega.{arith}
use lib.ListN.{take, set, get_or, length-take, length-map}
use lib.Seq.{sets}
use lib.Ieee.{nan}
use borrow.Author.Rules.{rules}
use Rattle.columns.proofs.Columns.{sets_over}
use Rattle.columns.proofs.Refusals.{store-more}
use Rattle.weights_recipe.specs.Rounding.{half_weight}
use Rattle.weights_calls.specs.Steps.{half_weight_of}
use Rattle.weights_calls.proofs.store_by_table.Goals as goal

pub loop-i-preserved : goal.loop-i-preserved
loop-i-preserved c =
    let s = c.args in
    let at = c.loop-i in
    let one = half_weight_of s.max_half_weight s.largest in
    let got = c.known.ensures (λ w. half_weight s.max_half_weight w s.largest) (λ p r h. search rules) at.invariant.1 in (
      ap (λ v. set at.column at.i v) got.0
          ∙ ap (λ l. set l at.i (one (get_or s.p.now at.i nan))) at.invariant.0
          ∙ store-more s.p.now one nan s.column.now at.i (omega arith),
      got.1,
    )

pub returns : goal.returns
returns c =
    let s = c.args in
    let one = half_weight_of s.max_half_weight s.largest in
    let all : c.loop-i.i ≡ s.n = omega arith in
    c.loop-i.invariant.0 ∙ ap (λ k. sets s.column.now 0 (map one (take k s.p.now))) all ∙ sets_over s.column.now (map one (take s.n s.p.now)) (omega (arith, length-map (take s.n s.p.now) one, length-take s.n s.p.now))
