-- `reorder_columns::gather_positions` meets its contract: after k turns the first k listed positions are stored. Assumes nothing.
use mathlib.Core.Path.{◌≡◌}
use mathlib.Core.List.{map}
use lib.ListN.{get_or, take}
use lib.Seq.{sets}
use Rattle.columns.specs.Places.{zero_float}
use Rattle.reorder_columns.proofs.gather_positions.Given as goal

abbrev pub invariant-loop-k : goal.invariant-loop-k
invariant-loop-k l = (l.pos_i ≡ sets l.initial.pos_i 0 (map (λ u. get_or l.from_i u zero_float) (take l.k l.list))) × (l.pos_j ≡ sets l.initial.pos_j 0 (map (λ u. get_or l.from_j u zero_float) (take l.k l.list))) × (l.pos_t ≡ sets l.initial.pos_t 0 (map (λ u. get_or l.from_t u zero_float) (take l.k l.list)))
