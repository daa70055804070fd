-- `columns_neighbors::sound::ascending_ends` meets its contract: true is returned only where the ends are in range and ascend, so the graph is sound. Assumes nothing.
use native.Mathlib.Omega.{arith}
use Rattle.columns_neighbors.proofs.Ends.{ascending-says}
use Rattle.columns_neighbors.proofs.sound.ascending_ends.Goals as goal

pub returns-then-n-b : goal.returns-then-n-b
returns-then-n-b c = λ e.
    let s = c.args in
    ascending-says s.vertex_num s.edge_num s.a.now s.b.now c.requires.0 c.requires.1 (omega arith) (omega arith) (c.ascending.ensures e)
