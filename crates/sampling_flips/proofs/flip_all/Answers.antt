-- `sampling_flips::flip_all` meets its contract: each turn flips the ends of one listed edge more. Assumes nothing.
use mathlib.Core.Path.{refl}
use native.Mathlib.Omega.{arith}
use Rattle.sampling_flips.specs.Flip.{flip_each}
use Rattle.sampling_flips.proofs.Flipping.{flipEach-more}
use Rattle.sampling_flips.proofs.flip_all.Goals as goal

pub loop-edge-init : goal.loop-edge-init
unfolding flip_each
loop-edge-init c = refl

pub loop-edge-preserved : goal.loop-edge-preserved
loop-edge-preserved c = flipEach-more _ _ _ _ c.loop-edge.edge-index _ (omega arith) c.loop-edge.invariant c.flip_edge.ensures
