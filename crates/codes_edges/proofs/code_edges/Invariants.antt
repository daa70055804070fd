-- `codes_edges::code_edges` meets its contract. Invariant: the edges of the first t layers and of the gaps after them are written. Assumes nothing.
use mathlib.Core.List.{List, ◌++◌}
use Prim.Native.Nat.{ℕ, ◌*◌}
use Rattle.columns.specs.Lists.{joined}
use Rattle.codes_writers.specs.Edges.{Ends}
use Rattle.codes_writers.specs.Steps.{Wrote}
use Rattle.codes_layers.specs.Codes.{layer_size, layer_edges, gap_edges}
use Rattle.codes_edges.proofs.code_edges.Given as goal

-- a layer and the gap after it
abbrev pub part : (kind d t : ℕ) → List Ends
part kind d t = layer_edges kind d (t * layer_size kind d) ++ gap_edges kind d (t * layer_size kind d)

abbrev pub invariant-loop-t : goal.invariant-loop-t
invariant-loop-t l = Wrote l.initial.ends_a l.initial.ends_b 0 (joined l.t (part l.kind l.d)) l.ends_a l.ends_b l.next
