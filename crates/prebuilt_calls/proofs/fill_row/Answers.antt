-- `prebuilt_calls::fill_row` meets its contract: `all_edges` asks the other questions, and `write_row` makes the row of its table. Assumes nothing.
use mathlib.Core.Path.{sym, ap, ◌∙◌}
use native.Mathlib.Omega.{arith}
use borrow.Author.Tests.{leb-true}
use lib.ListN.{length, take}
use lib.Seq.{sets, length-take-le}
use Rattle.columns.specs.Lists.{each}
use Rattle.engine_columns.specs.Records.{engine_in}
use Rattle.query_questions.specs.Scratch.{scratch_in}
use Rattle.prebuilt_entries.specs.Entries.{row_entry}
use Rattle.prebuilt_calls.proofs.Replies.{table_there}
use Rattle.prebuilt_calls.proofs.Entries.{row_filled}
use Rattle.prebuilt_calls.proofs.fill_row.Goals as goal

pub slice_bounds-write_row-end : goal.slice_bounds-write_row-end
slice_bounds-write_row-end c = let t = table_there c.in_ok-all_edges.ensures in sym (length-take-le _ _ t.boundary_long)

pub write_row-requires : goal.write_row-requires
write_row-requires c =
    let a = c.args in
    let t = table_there c.in_ok-all_edges.ensures in
    let lb = length-take-le a.c.vertices a.boundary.now t.boundary_long in (omega (arith, lb, leb-true a.c.vertices (length a.nearest.now) c.in_ok-require.ensures.ok), omega (arith, lb, t.fits), omega (arith, lb, t.v_in))

pub returns : goal.returns
returns c =
    let a = c.args in
    let t = table_there c.in_ok-all_edges.ensures in
    let lb = length-take-le a.c.vertices a.boundary.now t.boundary_long in
    row_filled (engine_in a.c a.ends_a.now a.ends_b.now a.weights.now a.boundary.now a.log_edges.now a.log_weights.now) a.vertex.0 a.nearest.now a.out.now a.before.now
    (scratch_in a.neighbor_numbers.now a.list_ends.now a.status.now a.weight.now a.previous.now a.node.now a.leaf.now) c.in_ok-require.ensures.ok c.in_ok-all_edges.ensures
    (c.write_row.ensures ∙ ap (λ n. sets c.all_edges.new.out_weight 0 (each n (row_entry (take a.c.vertices a.boundary.now) a.nearest.now a.vertex.0 c.all_edges.new.out_weight))) lb)
