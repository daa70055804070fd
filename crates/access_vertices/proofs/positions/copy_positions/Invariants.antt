-- `access_vertices::positions::copy_positions` meets its contract: after v turns the first v positions are copied. Assumes nothing.
use mathlib.Core.Path.{◌≡◌}
use lib.ListN.{take}
use lib.Seq.{sets}
use Rattle.access_vertices.proofs.positions.copy_positions.Given as goal

abbrev pub invariant-loop-v : goal.invariant-loop-v
invariant-loop-v l = (l.to_i ≡ sets l.initial.to_i 0 (take l.v l.pos_i)) × (l.to_j ≡ sets l.initial.to_j 0 (take l.v l.pos_j)) × (l.to_t ≡ sets l.initial.to_t 0 (take l.v l.pos_t))
