-- `query_read_back::path_length` meets its contract. Invariant: j steps were read back, to v. Assumes nothing.
use mathlib.Core.Path.{◌≡◌}
use Prim.Native.Nat.{ℕ, ◌+◌, ◌-◌}
use mathlib.Core.List.{List}
use lib.ListN.{length}
use Rattle.engine_walks.specs.Answers.{read_back_of}
use Rattle.query_relaxing.specs.Ready.{state_of}
use Rattle.query_read_back.proofs.path_length.Given as goal

abbrev pub invariant-loop-j : goal.invariant-loop-j
invariant-loop-j l = (w : List ℕ) → length (read_back_of (state_of l.status w l.previous) l.a.0 (length l.status) l.initial.v.0) ≡ length (read_back_of (state_of l.status w l.previous) l.a.0 (length l.status - l.j) l.v.0) + l.j
