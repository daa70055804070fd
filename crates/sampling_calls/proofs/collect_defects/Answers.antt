-- `sampling_calls::collect_defects` meets its contract: flips of bytes that were 0 set those of the syndrome, and `list_set` lists them. Assumes nothing.
use mathlib.Core.Path.{ap, ◌∙◌}
use mathlib.Core.List.{List}
use Prim.Native.Nat.{ℕ}
use lib.ListN.{length}
use Rattle.columns.specs.Lists.{over}
use Rattle.columns_room.specs.Graph.{code_graph}
use Rattle.columns_marks.specs.Marks.{listed}
use Rattle.sampling_calls.proofs.Accepting.{listed-syndrome}
use Rattle.sampling_calls.proofs.collect_defects.Goals as goal

pub returns : goal.returns
returns c =
    let a = c.args in
    let g = code_graph a.vertex_num a.edge_num a.ends_a.now a.ends_b.now a.boundary.now in
    let e = ap (listed a.vertex_num) c.flip_all.ensures ∙ listed-syndrome g a.list.now a.bytes.now c.requires.fits.long_defect (λ u h. c.requires.by_index.1 u) in
    record { value = c.list_set.ensures.0 ∙ ap length e; defect_list_after = c.list_set.ensures.1 ∙ ap (λ (l : List ℕ). over l a.defect_list.now) e }
