-- `access_calls::fill::fill_positions` meets its contract: after v turns the first v places hold 0. Assumes nothing.
use mathlib.Core.Path.{◌≡◌}
use lib.ListN.{replicate}
use lib.Seq.{sets}
use Rattle.columns.specs.Places.{zero_float}
use Rattle.access_calls.proofs.fill.fill_positions.Given as goal

abbrev pub invariant-loop-v : goal.invariant-loop-v
invariant-loop-v l = (l.pos_i ≡ sets l.initial.pos_i 0 (replicate l.v zero_float)) × (l.pos_j ≡ sets l.initial.pos_j 0 (replicate l.v zero_float)) × (l.pos_t ≡ sets l.initial.pos_t 0 (replicate l.v zero_float))
