-- `text_numbers::lines::put_vertices` meets its contract. Invariant: the lines of the first v vertices are put, and the text keeps its length. Assumes nothing.
use mathlib.Core.Path.{◌≡◌}
use Prim.Native.Nat.{◌-◌, ◌≤◌}
use lib.ListN.{length}
use Rattle.columns.specs.Lists.{joined}
use Rattle.text_numbers.specs.Text.{vertex_line}
use Rattle.text_numbers.specs.Steps.{Put}
use Rattle.text_numbers.proofs.lines.put_vertices.Given as goal

abbrev pub invariant-loop-v : goal.invariant-loop-v
invariant-loop-v l = (l.v ≤ l.n) × (length l.text ≡ length l.initial.text) × Put l.initial.text l.at (joined l.v (vertex_line l.boundary)) l.text l.next
