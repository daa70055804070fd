-- `query_read_back::write_path` meets its contract. Invariant: the path is written down to place i, and v is the vertex of place i - 1, so that there is a step back. Assumes nothing.
use lib.ListN.{length}
use Rattle.query_relaxing.specs.Ready.{state_of}
use Rattle.query_read_back.proofs.Back.{Written}
use Rattle.query_read_back.proofs.write_path.Given as goal

abbrev pub invariant-loop-i : goal.invariant-loop-i
invariant-loop-i l = Written (state_of l.status l.weight l.previous) l.a.0 (length l.status) l.initial.v.0 l.i l.v.0 l.initial.out_vertices l.out_vertices l.initial.out_steps l.out_steps
