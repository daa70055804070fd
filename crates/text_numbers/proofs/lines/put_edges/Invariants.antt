-- `text_numbers::lines::put_edges` meets its contract. Invariant: the lines of the first e edges are put, and the text keeps its length. Assumes nothing.
use mathlib.Core.Path.{◌≡◌}
use Prim.Native.Nat.{◌-◌, ◌≤◌}
use lib.ListN.{length}
use Rattle.columns.specs.Lists.{joined}
use Rattle.text_numbers.specs.Text.{edge_line}
use Rattle.text_numbers.specs.Steps.{Put}
use Rattle.text_numbers.proofs.lines.put_edges.Given as goal

abbrev pub invariant-loop-e : goal.invariant-loop-e
invariant-loop-e l = (l.e ≤ l.n) × (length l.text ≡ length l.initial.text) × Put l.initial.text l.at (joined l.e (edge_line l.ends_a l.ends_b l.weights)) l.text l.next
