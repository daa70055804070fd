-- `prebuilt_entries::rows::write_row` meets its contract. Invariant: the first u entries are those of the row, and the others are as they were. Assumes nothing.
use mathlib.Core.Path.{◌≡◌, refl, ap, ◌∙◌, subst}
use Prim.Native.Nat.{ℕ, ◌<◌}
use native.Mathlib.Omega.{arith}
use mathlib.Core.Bool.{◌||◌}
use mathlib.Core.List.{List}
use lib.ListN.{length, get_or, set}
use lib.IntN.{ℤ, pos, negsuc}
use Rattle.columns.specs.Lists.{each}
use Rattle.columns.proofs.Counting.{store-each}
use Rattle.prebuilt_entries.specs.Entries.{row_entry, is_virtual, entry_by}
use Rattle.prebuilt_entries.proofs.Stored.{not_yet}
use Rattle.columns.specs.Limits.{table_bound}
use Rattle.columns.proofs.Widths.{table_width}
use mir.Val.{to_z, of_z}
use mir.ValLaws.{to_z-of_z}
use lib.Dec.{eqb}
use lib.Signed.{mag}
use Rattle.engine_walks.specs.Answers.{weight_in}
use Rattle.columns.proofs.Columns.{get_d_any}
use Rattle.prebuilt_entries.proofs.Ranks.{entry_fits}
use Rattle.prebuilt_entries.proofs.rows.write_row.Goals as goal

pub loop-u-init : goal.loop-u-init
unfolding each
loop-u-init c = refl

pub loop-u-preserved : goal.loop-u-preserved
loop-u-preserved c =
    let a = c.args in
    let at = c.loop-u in
    let u = at.u in
    let v = a.v.0 in
    let bytes : List ℕ = a.boundary.now in
    let near : List ℤ = a.nearest.now in
    let column : List ℤ = a.out.now in
    let f : ℕ → ℤ = row_entry bytes near v column in
    let hu : u < length bytes = c.loop-u-test.true in
    let hn : v < length near = omega (arith, c.requires) in
    let hp : u < length near = omega (arith, c.requires, hu) in
    let ho : u < length column = omega (arith, c.requires, hu) in
    let n = to_z-of_z table_width (get_or near v (pos 0)) (record { sfits = c.row_entry-arg-1.given }) ∙ get_d_any near v (pos 0) (negsuc 0) hn in
    let p = to_z-of_z table_width (get_or near u (pos 0)) (record { sfits = c.row_entry-arg-in-loop-u-1.given }) ∙ get_d_any near u (pos 0) (negsuc 0) hp in
    let o : get_or at.out u (pos 0) ≡ weight_in column u =
    ap (λ (l : List ℤ). get_or l u (pos 0)) at.invariant ∙ not_yet column f (pos 0) u (omega (arith, ho)) ∙ get_d_any column u (pos 0) (negsuc 0) ho in
    let x = to_z-of_z table_width (get_or at.out u (pos 0)) (record { sfits = c.row_entry-arg-in-loop-u-2-1.given }) ∙ o in
    let r : c.row_entry.result ≡ f u = c.row_entry.ensures ∙ (λ i. entry_by (c.is_hidden-hidden.ensures i) (n i) (p i) (x i)) in
    let g : mag (f u) < table_bound = entry_fits (is_virtual (get_or bytes v 0) || (is_virtual (get_or bytes u 0) || eqb u v)) (weight_in near v) (weight_in near u) (weight_in column u) (subst (λ z. mag z < table_bound) o c.row_entry-arg-in-loop-u-2-1.given) in
    let z : to_z table_width (of_z table_width c.row_entry.result) ≡ f u = ap (λ k. to_z table_width (of_z table_width k)) r ∙ to_z-of_z table_width (f u) (record { sfits = g }) in
    (λ i. set (at.invariant i) u (z i)) ∙ store-each column u f
