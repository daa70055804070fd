-- Every code has a crossing weight, whatever its edges weigh. Assumes nothing.
use mathlib.Core.Path.{◌≡◌, refl}
use mathlib.Core.Option.{Option, some, none}
use Prim.Native.Nat.{ℕ, ◌≤◌, ◌<◌}
use native.Mathlib.Omega.{arith}
use lib.ListN.{length, length-map}
use Rattle.codes_writers.specs.Edges.{Ends}
use Rattle.codes_layers.specs.Codes.{edges_of}
use Rattle.codes_layers.specs.Counts.{vertex_num}
use Rattle.codes_layers.proofs.Accepted.{Accepted, accepted}
use Rattle.engine_walks.specs.Graph.{Graph, edges, GraphInRange}
use Rattle.engine_walks.specs.Answers.{crossing}
use Rattle.engine_walks.specs.Claims.{CrossingAnswer}
use Rattle.engine_walks.proofs.LeastCrossing.{crossing_is_least}
use Rattle.codes_graphs.specs.Graphs.{built_graph, height}
use Rattle.codes_graphs.proofs.AllEdges.{EdgeFacts, edge-facts}
use Rattle.codes_graphs.proofs.AllVertices.{byte_at}
use Rattle.codes_graphs.proofs.Sound.{first-is, second_is}
use Rattle.codes_graphs.proofs.Distance.{has-distance}
use Rattle.text_listing.specs.Claims.{EveryCodeCrosses}

module _ (kind d rounds : ℕ) (ok : Accepted kind d rounds) where
  abbrev g : Graph
  g = built_graph kind d rounds

  facts : EdgeFacts (height kind d) (vertex_num kind d rounds) (edges_of kind d rounds)
  facts = edge-facts kind d rounds ok

  many : edges g ≡ length (edges_of kind d rounds)
  unfolding built_graph
  many = length-map (edges_of kind d rounds) (λ (e : Ends). e.0)

  in_range : GraphInRange g
  unfolding built_graph
  in_range = record {
    a_in = λ k h. omega (arith, first-is kind d rounds ok k, facts.rising k (omega (arith, many)), facts.within k (omega (arith, many)));
    b_in = λ k h. omega (arith, second_is kind d rounds ok k, facts.within k (omega (arith, many)));
    byte = λ v h. omega (arith, (byte_at kind d rounds ok v h).few);
  }

  crosses : (w : ℕ → ℕ) → (weight : ℕ) × (crossing g w ≡ some weight)
  crosses w = go (crossing g w) refl (crossing_is_least g w in_range).0
    where
      go : (o : Option ℕ) → crossing g w ≡ o → CrossingAnswer g w o → (weight : ℕ) × (crossing g w ≡ some weight)
      go (some weight) e a = (weight, e)
      go none e a = let z = (has-distance kind d rounds ok).straight in absurd (a z.0 z.1 z.3 z.4 (z.2, z.5))

pub every-code_crosses : EveryCodeCrosses
every-code_crosses kind d rounds b w = crosses kind d rounds (accepted kind d rounds 0 b).0 w
