-- The verdict on a sound graph with its own neighbour lists, in which every vertex ends an edge. Assumes nothing.
use mathlib.Core.Path.{◌≡◌, sym, ap, ◌∙◌, subst}
use mathlib.Core.Logic.{◌⊎◌, inl, inr}
use mathlib.Core.Bool.{Bool, true, not, cond}
use mathlib.Core.List.{List}
use Prim.Native.Nat.{ℕ, ◌+◌, ◌≤◌, ◌<◌}
use native.Mathlib.Omega.{arith}
use lib.ListN.{length, get_or, take, drop, length-take}
use lib.Seq.{get_or-take}
use borrow.Author.Tests.{ne_eqb, not-true}
use Rattle.columns.specs.Questions.{every}
use Rattle.columns.proofs.Counting.{length-each, getD-each}
use Rattle.columns.proofs.Tests.{every-at}
use Rattle.columns_neighbors.specs.Lists.{hits, neighbors, lists, degrees, chosen, sum_to, neighbor_list_at}
use Rattle.columns_pairs.specs.Pairs.{same_pair, pairs_apart}
use Rattle.columns_neighbors.specs.Sound.{graph_sound, SoundGraph}
use Rattle.columns_pairs.proofs.PairTests.{at_apart}
use Rattle.columns_neighbors.proofs.Ends.{graph-says}
use Rattle.columns_neighbors.proofs.Placing.{length-hit, length_more, length_within, lists-count, list_of, neighbors-chosen, sum_starts, ends_at}
use Rattle.columns_marks.proofs.Listing.{chosen_ascends}
use Rattle.std.specs.Prelude.{None, Ok, Err}
use Rattle.columns.specs.declared.refusal.Refusal.TheVariants.{ShortColumn}
use Rattle.sanity_verdicts.specs.declared.Finding.TheVariants.{DuplicateEdge, EdgeTwice}
use Rattle.sanity_verdicts.specs.Sanity.{edge_numbered, vertex_numbered, first_of, duplicate, twice, at_vertex, verdict}
use Rattle.sanity_verdicts.proofs.Scans.{first-all, found_false, or_none}
use Rattle.sanity_verdicts.proofs.Stamping.{some_edges}
use Rattle.sanity_calls.proofs.Verdicts.{sanityAnswer, scanned, long_from}

-- edge k ends at vertex u
pub record EndsEdge (a b : List ℕ) (e u : ℕ) : Type 0 where
  pub edge : ℕ
  pub before : edge < e
  pub at_u : (get_or a edge 0 ≡ u) ⊎ (get_or b edge 0 ≡ u)

-- its list has a number
some_number : (a b : List ℕ) (e u : ℕ) → EndsEdge a b e u → 0 < length (neighbors a b e u)
some_number a b e u s = go s.at_u
  where
    k : ℕ
    k = s.edge

    hit-one : (x : ℕ) → x ≡ u → length (hits u x k) ≡ 1
    hit-one x p = subst (λ (y : ℕ). length (hits u y k) ≡ 1) (sym p) (length-hit u k)

    go : (get_or a k 0 ≡ u) ⊎ (get_or b k 0 ≡ u) → 0 < length (neighbors a b e u)
    go (inl p) = omega (arith, length_more a b k u, length_within a b (k + 1) e u (omega (arith, s.before)), hit-one (get_or a k 0) p)
    go (inr p) = omega (arith, length_more a b k u, length_within a b (k + 1) e u (omega (arith, s.before)), hit-one (get_or b k 0) p)

-- no number stands twice in a list that ascends
ascending_once : (list : List ℕ) (u : ℕ) → ((i j : ℕ) → i < j → j < length list → get_or list i 0 < get_or list j 0) → twice list u ≡ None
unfolding twice
ascending_once list u f = first-all _ (length list) (λ i h. first-all _ i (λ j l. found_false _ (EdgeTwice (edge_numbered (get_or list i 0)) (vertex_numbered u)) (ne_eqb (get_or list j 0) (get_or list i 0) (λ q. omega (arith, f j i l h)))))

module _ (v e : ℕ) (a b lengths numbers : List ℕ) (sound : graph_sound v e a b ≡ true)
    (some_edge : 1 ≤ e) (all_End : (u : ℕ) → u < v → EndsEdge a b e u)
    (lengths_are : take v lengths ≡ degrees a b e v) (numbers_are : take (length (lists a b e v)) numbers ≡ lists a b e v) where
  graph : SoundGraph v e a b
  graph = graph-says v e a b sound

  lengths-long : v ≤ length lengths
  unfolding degrees
  lengths-long = omega (arith, length-take v lengths, ap length lengths_are ∙ length-each v (λ u. length (neighbors a b e u)))

  numbers_long : length (lists a b e v) ≤ length numbers
  numbers_long = omega (arith, length-take (length (lists a b e v)) numbers, ap length numbers_are)

  length_at : (u : ℕ) → u < v → get_or lengths u 0 ≡ length (neighbors a b e u)
  unfolding degrees
  length_at u h = sym (get_or-take v lengths u 0 h) ∙ ap (λ (l : List ℕ). get_or l u 0) lengths_are ∙ getD-each v (λ u. length (neighbors a b e u)) 0 u h

  start-at : (u : ℕ) → u ≤ v → sum_to u lengths ≡ length (lists a b e u)
  start-at = sum_starts a b e v lengths length_at

  list_at : (u : ℕ) → u < v → neighbor_list_at lengths numbers u ≡ neighbors a b e u
  list_at u h = (λ i. take (length_at u h i) (drop (start-at u (omega arith) i) numbers)) ∙ list_of a b e v u numbers numbers_are h

  no-duplicate : (k : ℕ) → k < e → duplicate a b k ≡ None
  unfolding duplicate pairs_apart
  no-duplicate k h =
      let p = every-at (λ k. every k (λ j. not (same_pair a b j k))) e (at_apart a b e graph.apart) k h in
      first-all _ k (λ j l. found_false _ (DuplicateEdge (edge_numbered j) (edge_numbered k)) (not-true (same_pair a b j k) (every-at (λ j. not (same_pair a b j k)) k p j l)))

  no-finding : (u : ℕ) → u < v → at_vertex (neighbor_list_at lengths numbers u) (get_or lengths u 0) u ≡ None
  no-finding u h =
      let nonempty : get_or lengths u 0 ≡ 0 → ⊥ = λ q. omega (arith, length_at u h, some_number a b e u (all_End u h)) in
      let once : twice (neighbors a b e u) u ≡ None = subst (λ (l : List ℕ). twice l u ≡ None) (sym (neighbors-chosen a b e u graph.differ)) (ascending_once (chosen e (ends_at a b u)) u (chosen_ascends (ends_at a b u) e)) in
      sym (some_edges (neighbor_list_at lengths numbers u) (get_or lengths u 0) u nonempty) ∙ ap (λ (l : List ℕ). twice l u) (list_at u h) ∙ once

  -- at least one edge, counts and ends sound, every vertex an end of some edge, lists those of the ends: verdict 0
  pub sound-verdict : sanityAnswer v e a b lengths numbers ≡ Ok None
  sound-verdict =
      let many = lists-count a b e v graph.in_a graph.in_b in
      let long = long_from v e a b lengths numbers (record {
        a-long = graph.long_a;
        b-long = graph.long_b;
        lengths-long = lengths-long;
        twice-long = omega (arith, many, numbers_long);
        sum-long = omega (arith, start-at v (omega arith), numbers_long);
      }) in
      ap (λ (t : Bool). cond t (Ok (verdict v e a b lengths numbers)) (Err ShortColumn)) long
      ∙ ap Ok (sym (scanned v e a b lengths numbers (λ q. omega (arith, graph.some_vertex)) (λ q. omega arith))
      ∙ or_none (first_of e (duplicate a b)) _ (first-all (duplicate a b) e no-duplicate)
      ∙ first-all (λ u. at_vertex (neighbor_list_at lengths numbers u) (get_or lengths u 0) u) v no-finding)
