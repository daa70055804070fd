-- The columns keep their lengths.
use Rattle.std.proofs.Common.{length, ◌≡◌}
use Rattle.test_replay_engine.proofs.queries.Given as goal

abbrev pub invariant-loop : goal.invariant-loop
invariant-loop g l = (length l.weights ≡ length l.initial.weights) × (length l.log_edges ≡ length l.initial.log_edges) × (length l.log_weights ≡ length l.initial.log_weights)
