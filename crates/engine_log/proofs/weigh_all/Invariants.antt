-- `engine_log::weigh_all` meets its contract: after i entries the columns are as `loaded`, `named` and `earlier` say. Assumes nothing.
use Prim.Native.Nat.{◌≤◌, ◌-◌}
use mathlib.Core.Path.{◌≡◌}
use lib.ListN.{length}
use Rattle.engine_log.specs.Load.{loaded, earlier, named, given}
use Rattle.engine_log.proofs.weigh_all.Given as goal

abbrev pub invariant-loop-i : goal.invariant-loop-i
invariant-loop-i l =
    (l.i ≤ length l.list)
    × (l.weights ≡ loaded l.list (given l.values) l.i l.initial.weights)
    × (l.log_edges ≡ named l.list l.i l.initial.log_edges)
    × (l.log_weights ≡ earlier l.list (given l.values) l.i l.initial.weights l.initial.log_weights)
