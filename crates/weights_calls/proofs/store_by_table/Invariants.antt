-- `weights_calls::store_by_table` meets its contract. Invariant: the half weights of the first i edges are stored, and the table is right. Assumes nothing.
use mathlib.Core.Path.{◌≡◌}
use mathlib.Core.List.{map}
use lib.ListN.{take}
use lib.Seq.{sets}
use Rattle.weights_calls.specs.Steps.{Known, half_weight_of}
use Rattle.weights_calls.proofs.store_by_table.Given as goal

abbrev pub invariant-loop-i : goal.invariant-loop-i
invariant-loop-i l = (l.column ≡ sets l.initial.column 0 (map (half_weight_of l.max_half_weight l.largest) (take l.i l.p))) × Known (half_weight_of l.max_half_weight l.largest) l.known_p l.known_half
