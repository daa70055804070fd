-- `codes_layers::vertices::row_vertices` meets its contract. Invariant: the first i vertices of the row are written. Assumes nothing.
use Prim.Native.Nat.{◌-◌, ◌≤◌}
use Rattle.columns.specs.Lists.{each}
use Rattle.codes_writers.specs.Steps.{Placed}
use Rattle.codes_layers.specs.Codes.{vertex_of}
use Rattle.codes_layers.proofs.vertices.row_vertices.Given as goal

abbrev pub invariant-loop-i : goal.invariant-loop-i
invariant-loop-i l = (l.i ≤ l.w) × Placed l.initial.boundary l.initial.pos_i l.initial.pos_j l.initial.pos_t l.at (each l.i (λ k. vertex_of l.kind l.d l.t l.row k)) l.boundary l.pos_i l.pos_j l.pos_t l.next
