-- `prebuilt_calls::boundaries::fill_one` meets its contract: the columns fit, so `all_edges` accepts, and `store_boundary` reads its table. Assumes nothing.
use mathlib.Core.Path.{sym, ◌∙◌}
use native.Mathlib.Omega.{arith}
use lib.ListN.{take, set}
use lib.Seq.{length-take-le}
use Rattle.prebuilt_entries.specs.Nearest.{boundary_in, weight_to, vertex_to}
use Rattle.prebuilt_calls.proofs.Replies.{table_there}
use Rattle.prebuilt_calls.proofs.boundaries.fill_one.Goals as goal

pub slice_bounds-store_boundary-end : goal.slice_bounds-store_boundary-end
slice_bounds-store_boundary-end c = let t = table_there c.in_ok-all_edges.ensures in sym (length-take-le _ _ t.boundary_long)

pub store_boundary-requires : goal.store_boundary-requires
store_boundary-requires c =
    let a = c.args in
    let t = table_there c.in_ok-all_edges.ensures in
    let lb = length-take-le a.c.vertices a.boundary.now t.boundary_long in
    let ll = length-take-le a.c.vertices c.all_edges.new.out_weight t.fits in
    let f = c.requires.fillable in
    (lb ∙ sym ll, omega (arith, lb, t.v_in), omega (arith, ll, t.few), omega (arith, f.weights_fit, t.v_in), omega (arith, f.vertices_fit, t.v_in))

pub returns-clause-filled : goal.returns-clause-filled
returns-clause-filled c =
    let a = c.args in
    let t = table_there c.in_ok-all_edges.ensures in
    let m = take a.c.vertices a.boundary.now in
    let ll = length-take-le a.c.vertices c.all_edges.new.out_weight t.fits in
    let o = c.store_boundary.ensures in
    record {
      weights_after = o.out_weight_after ∙ (λ i. set a.out_weight.now a.v.0 (weight_to (t.is_table i) (boundary_in m (t.is_table i) (ll i) a.v.0)));
      vertices_after_holds = o.out_vertex_after ∙ (λ i. set a.out_vertex.now a.v.0 (vertex_to (boundary_in m (t.is_table i) (ll i) a.v.0)));
      table_after = t.inside;
    }
