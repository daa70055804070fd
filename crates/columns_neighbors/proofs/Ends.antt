-- What question 7 says of a graph's counts and ends, and back. Assumes nothing.
use mathlib.Core.Path.{◌≡◌, refl}
use mathlib.Core.Bool.{Bool, true, false, ◌&&◌}
use mathlib.Core.List.{List}
use Prim.Native.Nat.{ℕ, ◌≤◌, ◌<◌}
use native.Mathlib.Omega.{arith}
use lib.ListN.{length, take, length-take}
use lib.Seq.{get_or-take}
use lib.Dec.{leb}
use borrow.Author.Tests.{leb-true, le-leb}
use Rattle.columns.specs.Limits.{vertex_limit, edge_limit}
use Rattle.columns.specs.Questions.{all_below, vertex_count_sound, edge_count_sound}
use Rattle.columns.proofs.Tests.{and_both, both_and, below_first, at_below}
use Rattle.columns_neighbors.specs.Sound.{ends_in_range, graph_sound, SoundGraph}
use Rattle.columns_pairs.specs.Pairs.{ends_differ, pairs_apart, EdgesAscend}
use Rattle.columns_neighbors.specs.Steps.{InRange}
use Rattle.columns_pairs.proofs.PairTests.{differ_at, at_differ, apart_at, at_apart}

module _ (v e : ℕ) (a b : List ℕ) where
  pub range-says : ends_in_range v e a b ≡ true → (e ≤ length a) × (e ≤ length b) × InRange a e v × InRange b e v
  unfolding ends_in_range
  range-says p =
      let (la, p₁) = and_both (leb e (length a)) _ p in
      let (lb, p₂) = and_both (leb e (length b)) _ p₁ in
      let (ba, bb) = and_both (all_below v (take e a)) _ p₂ in
      (leb-true e (length a) la, leb-true e (length b) lb, below_first v e a ba (leb-true e (length a) la), below_first v e b bb (leb-true e (length b) lb))

  pub graph-says : graph_sound v e a b ≡ true → SoundGraph v e a b
  unfolding graph_sound
  graph-says p =
      let (vs, p₁) = and_both (vertex_count_sound v) _ p in
      let (es, p₂) = and_both (edge_count_sound e) _ p₁ in
      let (rs, p₃) = and_both (ends_in_range v e a b) _ p₂ in
      let (ds, ps) = and_both (ends_differ a b e) _ p₃ in
      let (one, few) = and_both (leb 1 v) (leb v vertex_limit) vs in
      let r = range-says rs in record {
        some_vertex = leb-true 1 v one;
        few_vertices = leb-true v vertex_limit few;
        few_edges = leb-true e edge_limit es;
        long_a = r.0;
        long_b = r.1;
        in_a = r.2;
        in_b = r.3;
        differ = differ_at a b e ds;
        apart = apart_at a b e ps;
      }

  first_below : (xs : List ℕ) → e ≤ length xs → InRange xs e v → all_below v (take e xs) ≡ true
  first_below xs l h = at_below v (take e xs) (λ i k.
      let i_in : i < e = omega (arith, length-take e xs) in
      rw (get_or-take e xs i 0 i_in) (h i i_in))

  pub says-graph : SoundGraph v e a b → graph_sound v e a b ≡ true
  unfolding graph_sound ends_in_range
  says-graph s =
      both_and (both_and (le-leb 1 v s.some_vertex) (le-leb v vertex_limit s.few_vertices))
      (both_and (le-leb e edge_limit s.few_edges)
      (both_and (both_and (le-leb e (length a) s.long_a) (both_and (le-leb e (length b) s.long_b) (both_and (first_below a s.long_a s.in_a) (first_below b s.long_b s.in_b))))
      (both_and (at_differ a b e s.differ) (at_apart a b e s.apart))))

  -- ends in range that ascend are those of a graph
  pub ascending-says : vertex_count_sound v ≡ true → edge_count_sound e ≡ true → e ≤ length a → e ≤ length b → EdgesAscend a b v e → graph_sound v e a b ≡ true
  unfolding graph_sound ends_in_range
  ascending-says vs es la lb asc =
      let in_a : InRange a e v = λ k h. omega (arith, asc.below k h, asc.smaller k h) in
      both_and vs (both_and es (both_and (both_and (le-leb e (length a) la) (both_and (le-leb e (length b) lb) (both_and (first_below a la in_a) (first_below b lb asc.below))))
      (both_and (at_differ a b e (λ k h q. omega (arith, asc.smaller k h))) asc.apart)))

  -- the first part that fails
  no : (x y : Bool) → x ≡ false → false ≡ (x && y)
  no x y e = rw e

  go : (x y z : Bool) → x ≡ true → z ≡ y → z ≡ (x && y)
  go x y z e f = rw e f

  pub bad-vertices : vertex_count_sound v ≡ false → false ≡ graph_sound v e a b
  unfolding graph_sound
  bad-vertices p = no (vertex_count_sound v) _ p

  pub bad-edges : vertex_count_sound v ≡ true → edge_count_sound e ≡ false → false ≡ graph_sound v e a b
  unfolding graph_sound
  bad-edges p q = go (vertex_count_sound v) _ false p (no (edge_count_sound e) _ q)

  module _ (p : vertex_count_sound v ≡ true) (q : edge_count_sound e ≡ true) where
    pub bad-range : ends_in_range v e a b ≡ false → false ≡ graph_sound v e a b
    unfolding graph_sound
    bad-range r = go (vertex_count_sound v) _ false p (go (edge_count_sound e) _ false q (no (ends_in_range v e a b) _ r))

    pub bad-ends : ends_in_range v e a b ≡ true → ends_differ a b e ≡ false → false ≡ graph_sound v e a b
    unfolding graph_sound
    bad-ends r s = go (vertex_count_sound v) _ false p (go (edge_count_sound e) _ false q (go (ends_in_range v e a b) _ false r (no (ends_differ a b e) _ s)))

    pub all-but-pairs : ends_in_range v e a b ≡ true → ends_differ a b e ≡ true → pairs_apart a b e ≡ graph_sound v e a b
    unfolding graph_sound
    all-but-pairs r s =
        go (vertex_count_sound v) _ (pairs_apart a b e) p (go (edge_count_sound e) _ (pairs_apart a b e) q (go (ends_in_range v e a b) _ (pairs_apart a b e) r (go (ends_differ a b e) _ (pairs_apart a b e) s refl)))
