-- `sampling_flips::flip_all` meets its contract: the listed edges before this one have flipped their ends. Assumes nothing.
use mathlib.Core.Path.{◌≡◌}
use lib.ListN.{take}
use Rattle.sampling_flips.specs.Flip.{flip_each}
use Rattle.sampling_flips.proofs.flip_all.Given as goal

abbrev pub invariant-loop-edge : goal.invariant-loop-edge
invariant-loop-edge l = l.defect ≡ flip_each l.ends_a l.ends_b l.boundary (take l.edge-index l.list) l.initial.defect
