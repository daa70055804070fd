-- What questions 6 and 7 of a code's graph say where they are met. Assumes nothing.
use mathlib.Core.Path.{◌≡◌}
use mathlib.Core.Bool.{true}
use Prim.Native.Nat.{◌≤◌}
use lib.ListN.{length}
use borrow.Author.Tests.{leb-true}
use Rattle.columns.specs.Questions.{boundaries_sound}
use Rattle.columns.proofs.Tests.{and_both}
use Rattle.columns_neighbors.specs.Sound.{graph_sound, SoundGraph}
use Rattle.columns_neighbors.proofs.Ends.{graph-says}
use Rattle.columns_room.specs.Room.{two_long}
use Rattle.columns_room.specs.Graph.{CodeGraph, graph_long, code_sound}
use Rattle.columns_room.proofs.Refusals.{two_long_lem}

pub record GraphLong (g : CodeGraph) : Type 0 where
  pub long_a : g.edges ≤ length g.ends_a
  pub long_b : g.edges ≤ length g.ends_b
  pub long_boundary : g.vertices ≤ length g.boundary

pub graph_long_of : (g : CodeGraph) → graph_long g ≡ true → GraphLong g
unfolding graph_long
graph_long_of g p =
    let (e, m) = and_both (two_long g.edges (length g.ends_a) (length g.ends_b)) _ p in
    let (a, b) = two_long_lem g.edges _ _ e in
    record { long_a = a; long_b = b; long_boundary = leb-true _ _ m }

pub record CodeSound (g : CodeGraph) : Type 0 where
  pub graph : SoundGraph g.vertices g.edges g.ends_a g.ends_b
  pub boundaries : boundaries_sound g.vertices g.boundary ≡ true

pub code_sound_of : (g : CodeGraph) → code_sound g ≡ true → CodeSound g
unfolding code_sound
code_sound_of g p =
    let (a, b) = and_both (graph_sound g.vertices g.edges g.ends_a g.ends_b) _ p in
    record { graph = graph-says g.vertices g.edges g.ends_a g.ends_b a; boundaries = b }
