-- `codes_layers::vertices::layer_vertices` meets its contract. Invariant: the vertices of the first `row` rows of the layer are written. Assumes nothing.
use Prim.Native.Nat.{◌-◌, ◌≤◌}
use Rattle.columns.specs.Lists.{each, joined}
use Rattle.codes_writers.specs.Steps.{Placed}
use Rattle.codes_layers.specs.Codes.{rows, width, vertex_of}
use Rattle.codes_layers.proofs.vertices.layer_vertices.Given as goal

abbrev pub invariant-loop-row : goal.invariant-loop-row
invariant-loop-row l = (l.row ≤ l.rows) × Placed l.initial.boundary l.initial.pos_i l.initial.pos_j l.initial.pos_t l.at (joined l.row (λ k. each (width l.kind l.d) (λ i. vertex_of l.kind l.d l.t k i))) l.boundary l.pos_i l.pos_j l.pos_t l.next
