-- `sampling_calls::generate_errors` meets its contract: where no question fails the listed edges flip their ends, and both lists are written. Assumes nothing.
use mathlib.Core.Path.{sym, ap, ◌∙◌}
use native.Mathlib.Omega.{arith}
use lib.ListN.{take}
use lib.Seq.{length-take-le}
use Rattle.sampling_flips.specs.Flip.{flip_each}
use Rattle.sampling_flips.proofs.Flipping.{length-flipEach}
use Rattle.sampling_calls.proofs.Accepting.{errors_met, fits_of, over-take, flip_each-over, left-accepted}
use Rattle.sampling_calls.proofs.generate_errors.Goals as goal

pub flip_all-requires : goal.flip_all-requires
flip_all-requires c =
    let k = errors_met _ _ _ (sym c.in_ok-errors_refusal.ensures) in
    record { fits = fits_of _ _ k.long k.sound k.lists.long_defect; by_index = k.named }

pub list_set-defects-requires : goal.list_set-defects-requires
list_set-defects-requires c =
    let k = errors_met _ _ _ (sym c.in_ok-errors_refusal.ensures) in
    (omega (arith, k.lists.long_defect), k.lists.long_defects)

pub list_set-erasures-requires : goal.list_set-erasures-requires
list_set-erasures-requires c =
    let k = errors_met _ _ _ (sym c.in_ok-errors_refusal.ensures) in
    (k.lists.long_erasure, k.lists.long_erasures)

pub returns : goal.returns
returns c =
    let a = c.args in
    let z = sym c.in_ok-errors_refusal.ensures in
    let k = errors_met _ _ _ z in
    let flips = flip_each a.ends_a.now a.ends_b.now a.boundary.now a.list.now in
    let d = a.defect.now in
    let size = length-take-le a.vertex_num d k.lists.long_defect in
    let x = c.list_set-defects.ensures in
    let y = c.list_set-erasures.ensures in
    left-accepted _ _ _ _ _ _ _ z
    (length-flipEach a.ends_a.now a.ends_b.now a.boundary.now a.list.now (take a.vertex_num d) ∙ size) (length-take-le _ _ k.lists.long_erasure)
    (c.flip_all.ensures ∙ ap flips (sym (over-take a.vertex_num d k.lists.long_defect))
    ∙ flip_each-over _ a.edge_num _ _ _ _ (take a.vertex_num d) d size k.sound.graph.in_a k.sound.graph.in_b k.named)
    (sym (over-take a.edge_num a.erasure.now k.lists.long_erasure)) x.0 x.1 y.0 y.1
