-- `engine_log::undo_all` meets its contract: undoing the entries left is undoing all n at first. Assumes nothing.
use mathlib.Core.Path.{◌≡◌}
use Rattle.engine_log.specs.Load.{undone}
use Rattle.engine_log.proofs.undo_all.Given as goal

abbrev pub invariant-loop-at : goal.invariant-loop-at
invariant-loop-at l =
    undone l.log_edges l.log_weights l.at l.weights ≡ undone l.log_edges l.log_weights l.n l.initial.weights
