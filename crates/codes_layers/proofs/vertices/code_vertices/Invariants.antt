-- `codes_layers::vertices::code_vertices` meets its contract. Invariant: the vertices of the first t layers are written. Assumes nothing.
use Prim.Native.Nat.{◌+◌, ◌-◌, ◌≤◌}
use Rattle.columns.specs.Lists.{joined}
use Rattle.codes_writers.specs.Steps.{Placed}
use Rattle.codes_layers.specs.Codes.{layer_vertices}
use Rattle.codes_layers.proofs.vertices.code_vertices.Given as goal

abbrev pub invariant-loop-t : goal.invariant-loop-t
invariant-loop-t l = (l.t ≤ l.rounds + 1) × Placed l.initial.boundary l.initial.pos_i l.initial.pos_j l.initial.pos_t 0 (joined l.t (λ k. layer_vertices l.kind l.d k)) l.boundary l.pos_i l.pos_j l.pos_t l.next
