-- What belongs to a vertex stands at its new number: vertex columns are read through the order, neighbour lists are joined in it. Assumes nothing.
use mathlib.Core.Path.{◌≡◌, refl, sym, ap, ◌∙◌}
use mathlib.Core.Bool.{Bool}
use mathlib.Core.List.{List, ◌++◌, append_assoc}
use Prim.Native.Nat.{ℕ, zero, suc, ◌+◌, ◌-◌, ◌≤◌, ◌<◌}
use native.Mathlib.Omega.{arith}
use lib.ListN.{length, get_or, take, drop, length-append}
use lib.Seq.{take_at, drop_at}
use Rattle.columns.specs.Lists.{joined, when, over}
use Rattle.columns.specs.Places.{zero_float, position}
use Rattle.std.specs.Prelude.{Ok}
use Rattle.columns.proofs.Columns.{after-accepted}
use Rattle.columns.proofs.Counting.{joined-more, joined-plus, joined_same}
use Rattle.columns_neighbors.specs.Lists.{hits, neighbors, sum_to, neighbor_list_at}
use Rattle.reorder_orders.specs.Order.{new_number, moved}
use Rattle.reorder_orders.specs.Steps.{IsOrder}
use Rattle.reorder_orders.proofs.Permutation.{order_below, old_of_new, new_of_old}
use Rattle.reorder_calls.specs.Columns.{ReorderColumns, moved_lists, reorder_refusal, ReorderedVertices}
use Rattle.reorder_calls.proofs.Moving.{length-list}
use Rattle.reorder_claims.specs.Moves.{Renumbers, MovedTo, OwnList, ReorderingMoves}
use Rattle.reorder_claims.proofs.Kept.{promise, refusal_is, k, o, new_in, column-at, same_number, GraphRenamed, graph-renamed}

-- the part of a list that starts at p and has q numbers
part_is : (xs ys zs : List ℕ) (p q : ℕ) → length xs ≡ p → length ys ≡ q → take q (drop p (xs ++ (ys ++ zs))) ≡ ys
part_is xs ys zs p q e f = ap (take q) (drop_at xs (ys ++ zs) p e) ∙ take_at ys zs q f

module _ (v e : ℕ) (order : List ℕ) (c₀ c : ReorderColumns) (call : ReorderedVertices v e order c₀ (Ok tt) c) where
  -- ---- vertex columns

  abbrev q : ℕ
  q = reorder_refusal v e order c₀

  z : q ≡ 0
  z = refusal_is v e order c₀ c call

  is-order : IsOrder order
  is-order = o v e order c₀ c call

  many : length order ≡ v
  many = (k v e order c₀ c call).many

  old-is : (u : ℕ) → u < v → get_or order (new_number order u) 0 ≡ u
  old-is u h = old_of_new order is-order u (omega (arith, many))

  at_new : {A : Type 0} (d : A) (x x' : List A) → x' ≡ over (moved order d x) x → (u : ℕ) → u < v → get_or x' (new_number order u) d ≡ get_or x u d
  at_new d x x' p u h = column-at v e order c₀ c call d x x' p (new_number order u) (new_in v e order c₀ c call u h) ∙ ap (λ (n : ℕ). get_or x n d) (old-is u h)

  -- ---- neighbour lists

  abbrev list : ℕ → List ℕ
  list n = neighbor_list_at c₀.list_lengths c₀.neighbor_numbers (get_or order n 0)

  length_at : (n : ℕ) → n < v → get_or c.list_lengths n 0 ≡ length (list n)
  length_at n h =
      column-at v e order c₀ c call 0 c₀.list_lengths c.list_lengths (call.list_lengths_after ∙ after-accepted q (moved order 0 c₀.list_lengths) c₀.list_lengths z) n h
      ∙ sym (length-list c₀.list_lengths c₀.neighbor_numbers v (get_or order n 0) (omega (arith, order_below order is-order n (omega (arith, many)), many)) (k v e order c₀ c call).long_numbers)

  start-at : (n : ℕ) → n ≤ v → length (joined n list) ≡ sum_to n c.list_lengths
  unfolding joined sum_to
  start-at zero h = refl
  start-at (suc n) h = omega (arith, length-append (joined n list) (list n), start-at n (omega arith), length_at n (omega arith))

  numbers_are : c.neighbor_numbers ≡ over (joined v list) c₀.neighbor_numbers
  unfolding moved_lists
  numbers_are =
      call.neighbor_numbers_after ∙ after-accepted q (moved_lists order c₀.list_lengths c₀.neighbor_numbers) c₀.neighbor_numbers z
      ∙ ap (λ (n : ℕ). over (joined n list) c₀.neighbor_numbers) many

  list_at : (n : ℕ) → n < v → neighbor_list_at c.list_lengths c.neighbor_numbers n ≡ list n
  list_at n h =
      let m : ℕ = v - (n + 1) in
      let v-is : v ≡ n + 1 + m = omega arith in
      let after-them : List ℕ = joined m (λ i. list (n + 1 + i)) in
      let past : List ℕ = drop (length (joined v list)) c₀.neighbor_numbers in
      let split : c.neighbor_numbers ≡ joined n list ++ (list n ++ (after-them ++ past)) =
      numbers_are
      ∙ ap (λ (l : List ℕ). l ++ past) (ap (λ (i : ℕ). joined i list) v-is ∙ joined-plus (n + 1) m list ∙ ap (λ (l : List ℕ). l ++ after-them) (joined-more n list))
      ∙ simp append_assoc in
      ap (λ (l : List ℕ). neighbor_list_at c.list_lengths l n) split
      ∙ part_is (joined n list) (list n) (after-them ++ past) (sum_to n c.list_lengths) (get_or c.list_lengths n 0) (start-at n (omega arith)) (sym (length_at n h))

  list-moved : (u : ℕ) → u < v → neighbor_list_at c.list_lengths c.neighbor_numbers (new_number order u) ≡ neighbor_list_at c₀.list_lengths c₀.neighbor_numbers u
  list-moved u h = list_at (new_number order u) (new_in v e order c₀ c call u h) ∙ ap (neighbor_list_at c₀.list_lengths c₀.neighbor_numbers) (old-is u h)

  -- ---- the claim's parts

  renumbers : Renumbers v order
  renumbers = record {
    as_many = many;
    new_within = new_in v e order c₀ c call;
    old_within = λ n h. omega (arith, order_below order is-order n (omega (arith, many)), many);
    old_of_new = old-is;
    new_of_old = λ n h. new_of_old order is-order n (omega (arith, many));
  }

  moved_to : (u : ℕ) → u < v → MovedTo u (new_number order u) c₀ c
  moved_to u h =
      let i = at_new zero_float c₀.pos_i c.pos_i (call.pos_i_after ∙ after-accepted q (moved order zero_float c₀.pos_i) c₀.pos_i z) u h in
      let j = at_new zero_float c₀.pos_j c.pos_j (call.pos_j_after ∙ after-accepted q (moved order zero_float c₀.pos_j) c₀.pos_j z) u h in
      let t = at_new zero_float c₀.pos_t c.pos_t (call.pos_t_after ∙ after-accepted q (moved order zero_float c₀.pos_t) c₀.pos_t z) u h in
      record {
        boundary = at_new 0 c₀.boundary c.boundary (call.boundary_after ∙ after-accepted q (moved order 0 c₀.boundary) c₀.boundary z) u h;
        defect = at_new 0 c₀.defect c.defect (call.defect_after ∙ after-accepted q (moved order 0 c₀.defect) c₀.defect z) u h;
        position = λ s. position (i s) (j s) (t s);
        neighbor_list = list-moved u h;
      }

  g : GraphRenamed v e order c₀ c
  g = graph-renamed v e order c₀ c call

  hits-new : (u x n : ℕ) {x' : ℕ} → u < v → x < v → x' ≡ new_number order x → hits (new_number order u) x' n ≡ hits u x n
  unfolding hits
  hits-new u x n h b p = ap (λ (t : Bool). when t n) (same_number order is-order many u x h b p)

  neighbors-same : (u : ℕ) → u < v → neighbors c.ends_a c.ends_b e (new_number order u) ≡ neighbors c₀.ends_a c₀.ends_b e u
  unfolding neighbors
  neighbors-same u h = joined_same e _ _ (λ n b. λ s.
      hits-new u (get_or c₀.ends_a n 0) n h (g.in_a n b) (g.ends_a_renamed n b) s ++ hits-new u (get_or c₀.ends_b n 0) n h (g.in_b n b) (g.ends_b_renamed n b) s)

  own-list : (u : ℕ) → u < v → OwnList e u c₀ → OwnList e (new_number order u) c
  own-list u h own = list-moved u h ∙ own ∙ sym (neighbors-same u h)

pub reordering_moves : ReorderingMoves
reordering_moves = record {
  numbers = λ v e order c₀ c r. renumbers v e order c₀ c (promise r);
  vertices = λ v e order c₀ c r. moved_to v e order c₀ c (promise r);
  edge_ends = λ v e order c₀ c r n h. let g = graph-renamed v e order c₀ c (promise r) in (g.ends_a_renamed n h, g.ends_b_renamed n h);
  own_lists = λ v e order c₀ c r. own-list v e order c₀ c (promise r);
}
