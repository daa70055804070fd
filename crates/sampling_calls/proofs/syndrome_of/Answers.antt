-- `sampling_calls::syndrome_of` meets its contract: where no question fails, the graph and the list are as `find_defects` requires. Assumes nothing.
use mathlib.Core.Path.{sym}
use Rattle.sampling_calls.proofs.Accepting.{syndrome_met, syndrome-accepted}
use Rattle.sampling_calls.proofs.syndrome_of.Goals as goal

pub find_defects-defects-requires : goal.find_defects-defects-requires
find_defects-defects-requires c =
    let k = syndrome_met _ _ _ (sym c.in_ok-syndrome_refusal.ensures) in
    let g = k.sound.graph in
    record {
      vertex_num_bound = (g.few_vertices, k.long.long_boundary, k.room);
      edge_num_in_bounds = (k.long.long_a, k.long.long_b);
      by_index = (g.in_a, g.in_b);
      by_index_2 = k.named;
    }

pub returns : goal.returns
returns c = syndrome-accepted _ _ _ (sym c.in_ok-syndrome_refusal.ensures) c.find_defects-defects.ensures.value c.find_defects-defects.ensures.defect_list_after
