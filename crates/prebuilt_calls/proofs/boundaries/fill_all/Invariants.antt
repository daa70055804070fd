-- `prebuilt_calls::boundaries::fill_all` meets its contract. Invariant: the first v places are filled. Assumes nothing.
use mathlib.Core.Path.{◌≡◌}
use lib.Seq.{sets}
use Rattle.columns.specs.Lists.{each}
use Rattle.engine_columns.specs.Records.{engine}
use Rattle.query_questions.specs.Queries.{graph_in, weights_in}
use Rattle.query_questions.specs.Scratch.{scratch_of}
use Rattle.prebuilt_calls.specs.Steps.{TablesInside}
use Rattle.prebuilt_calls.specs.Boundaries.{boundary_weight, boundary_vertex}
use Rattle.prebuilt_calls.proofs.boundaries.fill_all.Given as goal

abbrev pub invariant-loop-v : goal.invariant-loop-v
invariant-loop-v l =
    let e = engine l.c l.ends_a l.ends_b l.weights l.boundary l.log_edges l.log_weights in
    (l.out_weight ≡ sets l.initial.out_weight 0 (each l.v (boundary_weight (graph_in e) (weights_in e))))
    × (l.out_vertex ≡ sets l.initial.out_vertex 0 (each l.v (boundary_vertex (graph_in e) (weights_in e))))
    × TablesInside e l.v l.initial.least l.least l.initial.before l.before
    (scratch_of l.initial.neighbor_numbers l.initial.list_ends l.initial.status l.initial.weight l.initial.previous l.initial.node l.initial.leaf)
    (scratch_of l.neighbor_numbers l.list_ends l.status l.weight l.previous l.node l.leaf)
