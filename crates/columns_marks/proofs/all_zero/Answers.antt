-- `columns_marks::all_zero` meets its contract: while each byte is 0, no number is added. Assumes nothing.
use borrow.Author.Rules.{rules}
use mathlib.Core.Path.{◌≡◌, sym, ap, ◌∙◌}
use Prim.Native.Nat.{ℕ, ◌+◌}
use native.Mathlib.Nat.{add-zero}
use native.Mathlib.Omega.{arith}
use lib.ListN.{get_or}
use lib.Dec.{eqb}
use Rattle.columns.proofs.Tests.{and_both}
use Rattle.columns_marks.specs.Marks.{listed}
use Rattle.columns_marks.proofs.Listing.{listed-zero}
use Rattle.columns_marks.proofs.all_zero.Goals as goal

pub loop-i-init : goal.loop-i-init
loop-i-init c = (search rules, λ e. ap (λ (n : ℕ). listed n c.args.column.now) (add-zero c.args.at))

pub loop-i-preserved : goal.loop-i-preserved
loop-i-preserved c =
    let s = c.args in
    let at = c.loop-i in
    let here : ℕ = s.at + at.i in
    let next : s.at + (at.i + 1) ≡ here + 1 = omega arith in (
      omega arith,
      λ e.
          let h = and_both at.zero (eqb (get_or s.column.now here 0) 0) e in
          ap (λ (n : ℕ). listed n s.column.now) next ∙ listed-zero s.column.now here h.1 ∙ at.invariant.1 h.0,
    )

pub returns : goal.returns
returns c =
    let s = c.args in
    let at = c.loop-i in
    let last : s.at + 8 ≡ s.at + at.i = omega (arith, at.invariant.0) in
    λ e. ap (λ (n : ℕ). listed n s.column.now) last ∙ at.invariant.1 e
