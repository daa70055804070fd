-- `access_vertices::weights::store_weights` meets its contract. Invariant: the weights of the first k edges are stored. Assumes nothing.
use mathlib.Core.Path.{◌≡◌}
use lib.Seq.{sets}
use Rattle.access_vertices.specs.Weights.{weights}
use Rattle.access_vertices.proofs.weights.store_weights.Given as goal

abbrev pub invariant-loop-k : goal.invariant-loop-k
invariant-loop-k l = l.weight ≡ sets l.initial.weight 0 (weights l.k l.half_weight)
