-- What an accepted fill_vertices says. Assumes nothing.
use mathlib.Core.Path.{◌≡◌, sym, ◌∙◌}
use mathlib.Core.Bool.{◌&&◌}
use mathlib.Core.List.{List}
use Prim.Native.Nat.{ℕ, ◌*◌, ◌≤◌}
use native.Mathlib.Omega.{arith}
use lib.ListN.{length, replicate, length-replicate}
use lib.Seq.{sets}
use borrow.Author.Tests.{leb-true}
use Rattle.columns.specs.Lists.{after}
use Rattle.columns.proofs.Columns.{sets_over, after-accepted}
use Rattle.columns.proofs.Tests.{and_both}
use Rattle.columns_neighbors.specs.Sound.{graph_sound, SoundGraph}
use Rattle.columns_neighbors.proofs.Ends.{graph-says}
use Rattle.columns.proofs.Refusals.{met, goes_on}
use Rattle.columns_room.specs.Room.{two_long, three_long, edge_columns_long}
use Rattle.columns_room.proofs.Refusals.{three_long_lem}
use Rattle.access_calls.specs.Fill.{Vertices, vertex_columns_long, fill_refusal}

pub record FillMet (v e : ℕ) (a b : List ℕ) (c : Vertices) : Type 0 where
  pub pos_i : v ≤ length c.pos_i
  pub pos_j : v ≤ length c.pos_j
  pub pos_t : v ≤ length c.pos_t
  pub boundary : v ≤ length c.boundary
  pub defect : v ≤ length c.defect
  pub list_lengths : v ≤ length c.list_lengths
  pub neighbor_numbers : 2 * e ≤ length c.neighbor_numbers
  pub sound : SoundGraph v e a b

pub fill_met : (v e : ℕ) (a b : List ℕ) (c : Vertices) → fill_refusal v e a b c ≡ 0 → FillMet v e a b c
unfolding vertex_columns_long edge_columns_long
fill_met v e a b c z =
    let six = vertex_columns_long v c && edge_columns_long e a b c.neighbor_numbers in
    let (p, q) = and_both (vertex_columns_long v c) (edge_columns_long e a b c.neighbor_numbers) (met six 5 _ z) in
    let (r, s) = and_both (three_long v (length c.pos_i) (length c.pos_j) (length c.pos_t)) _ p in
    let (i, j, t) = three_long_lem v _ _ _ r in
    let (m, d, l) = three_long_lem v _ _ _ s in
    let (ends, n) = and_both (two_long e (length a) (length b)) _ q in
    record {
      pos_i = i;
      pos_j = j;
      pos_t = t;
      boundary = m;
      defect = d;
      list_lengths = l;
      neighbor_numbers = leb-true _ _ n;
      sound = graph-says v e a b (met (graph_sound v e a b) 6 0 (goes_on six 5 _ z));
    }

-- a column that is filled once every question is met
pub fill_after : {A : Type 0} (n q : ℕ) (column : List A) (x : A) → q ≡ 0 → n ≤ length column → sets column 0 (replicate n x) ≡ after q (replicate n x) column
fill_after n q column x e h = sets_over column (replicate n x) (omega (arith, length-replicate n x)) ∙ sym (after-accepted q (replicate n x) column e)
