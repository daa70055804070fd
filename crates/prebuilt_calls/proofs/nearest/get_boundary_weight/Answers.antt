-- `prebuilt_calls::nearest::get_boundary_weight` meets its contract: `all_edges` asks the questions, and its table has the nearest virtual vertex. Assumes nothing.
use Rattle.prebuilt_calls.proofs.Replies.{table_there}
use Rattle.prebuilt_calls.proofs.Boundary.{boundary_got}
use Rattle.prebuilt_calls.proofs.nearest.get_boundary_weight.Goals as goal

pub boundary_vertex-requires : goal.boundary_vertex-requires
boundary_vertex-requires c = let t = table_there c.in_ok-all_edges.ensures in (t.boundary_long, t.fits, t.v_in, t.few)

pub returns : goal.returns
returns c = boundary_got _ _ c.in_ok-all_edges.ensures _ c.boundary_vertex.ensures
