-- An accepted engine graph is a graph of `engine_walks`. Assumes nothing.
use Prim.Native.Nat.{◌<◌}
use native.Mathlib.Omega.{arith}
use lib.ListN.{take}
use lib.Seq.{get_or-take, length-take-le}
use Rattle.columns.specs.Limits.{boundary_limit}
use Rattle.columns.proofs.Tests.{within_at}
use Rattle.columns_neighbors.proofs.Ends.{graph-says}
use Rattle.engine_columns.specs.Records.{Engine}
use Rattle.engine_columns.proofs.Refusals.{Long, Sound}
use Rattle.engine_walks.specs.Graph.{GraphInRange}
use Rattle.query_questions.specs.Queries.{graph_in}

pub in_range : (e : Engine) → Long 0 e → Sound e → GraphInRange (graph_in e)
in_range e long ok =
    let g = graph-says e.counts.vertices e.counts.edges e.ends_a e.ends_b ok.columns.graph in
    let la = length-take-le e.counts.edges e.ends_a long.columns.ends_a in
    let lm = length-take-le e.counts.vertices e.boundary long.columns.boundary in
    record {
      a_in = λ k h. let l : k < e.counts.edges = omega (arith, la, h) in rw (get_or-take e.counts.edges e.ends_a k 0 l) (g.in_a k l);
      b_in = λ k h. let l : k < e.counts.edges = omega (arith, la, h) in rw (get_or-take e.counts.edges e.ends_b k 0 l) (g.in_b k l);
      byte = λ v h. omega (arith, within_at boundary_limit (take e.counts.vertices e.boundary) ok.columns.boundary v (omega (arith, lm, h)));
    }
