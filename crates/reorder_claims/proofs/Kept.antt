-- What reordering keeps: the graph up to the new numbers, question 7, and walks with their weights. Assumes nothing.
use mathlib.Core.Path.{◌≡◌, sym, ap, ◌∙◌, subst}
use mathlib.Core.Logic.{⊎_elim, inl, inr, ◌↔◌}
use mathlib.Core.Bool.{true}
use mathlib.Core.List.{List, map}
use Prim.Native.Nat.{ℕ, ◌≤◌, ◌<◌}
use native.Mathlib.Decide.{ℕ_discrete}
use native.Mathlib.Omega.{arith}
use lib.ListN.{length, get_or, take, length-take, length-map, get_or-map}
use lib.Seq.{get_or-take, length-take-le}
use lib.Dec.{eqb}
use borrow.Author.Tests.{eq-eqb, ne_eqb}
use Rattle.columns.specs.Lists.{over}
use Rattle.columns.specs.Questions.{all_within}
use Rattle.columns_answers.proofs.Said.{zero_of}
use Rattle.std.specs.Prelude.{Ok}
use Rattle.columns.proofs.Columns.{get_d_any, after-accepted, over-in, length_over}
use Rattle.columns.proofs.Tests.{both_and, within_first, at_within}
use Rattle.columns_neighbors.specs.Sound.{SoundGraph}
use Rattle.columns_neighbors.proofs.Ends.{says-graph}
use Rattle.engine_walks.specs.Graph.{Graph, end_a, end_b, boundary_at, Joins, Walk, stay, step, CrossingWeight}
use Rattle.columns_room.specs.Graph.{code_sound}
use Rattle.reorder_orders.specs.Order.{new_number, renamed, moved}
use Rattle.reorder_calls.specs.Columns.{ReorderColumns, reorder_sound, reorder_refusal, ReorderedVertices}
use Rattle.reorder_orders.specs.Steps.{IsOrder}
use Rattle.reorder_orders.proofs.Permutation.{order_below, new-below, old_of_new, new-differ}
use Rattle.reorder_calls.proofs.Accepting.{ReorderMet, reorder_met}
use Rattle.reorder_claims.specs.ReorderCalled.{VerticesReordered, vertices_reordered}
use Rattle.reorder_claims.specs.Keeps.{reorder_graph}

-- what stands at a place of a mapped list
map_at : {A : Type 0} (f : ℕ → A) (l : List ℕ) (d : A) (i : ℕ) → i < length l → get_or (map f l) i d ≡ f (get_or l i 0)
map_at f l d i h = get_d_any (map f l) i d (f 0) (omega (arith, length-map l f)) ∙ get_or-map f l i 0

-- the ends of the edges, in range and renamed, and the boundary bytes at the new numbers
pub record GraphRenamed (v e : ℕ) (order : List ℕ) (c₀ c : ReorderColumns) : Type 0 where
  pub order_is : IsOrder order
  pub many : length order ≡ v
  pub in_a : (i : ℕ) → i < e → get_or c₀.ends_a i 0 < v
  pub in_b : (i : ℕ) → i < e → get_or c₀.ends_b i 0 < v
  pub ends_a_renamed : (i : ℕ) → i < e → get_or c.ends_a i 0 ≡ new_number order (get_or c₀.ends_a i 0)
  pub ends_b_renamed : (i : ℕ) → i < e → get_or c.ends_b i 0 ≡ new_number order (get_or c₀.ends_b i 0)
  pub boundary_kept : (u : ℕ) → u < v → get_or c.boundary (new_number order u) 0 ≡ get_or c₀.boundary u 0

-- an old vertex is another one exactly where their new numbers are
pub same_number : {v : ℕ} (order : List ℕ) → IsOrder order → length order ≡ v → (u x : ℕ) {x' : ℕ} → u < v → x < v → x' ≡ new_number order x → eqb x' (new_number order u) ≡ eqb x u
same_number order o many u x {x'} h g p = elim (ℕ_discrete x u) [
  | yes q ↦ eq-eqb x' (new_number order u) (p ∙ ap (new_number order) q) ∙ sym (eq-eqb x u q)
  | no q ↦ ne_eqb x' (new_number order u) (λ r. q (new-differ order o x u (omega arith) (omega arith) (sym p ∙ r))) ∙ sym (ne_eqb x u q)
]

-- a crossing weight carries over where marks and walks do, both ways
crossing_carried : (g g' : Graph) (f h : ℕ → ℕ) → ((m x : ℕ) → x < g.vertices → boundary_at g x ≡ m → (f x < g'.vertices) × (boundary_at g' (f x) ≡ m))
    → ((m x : ℕ) → x < g'.vertices → boundary_at g' x ≡ m → (h x < g.vertices) × (boundary_at g (h x) ≡ m))
    → ((x y : ℕ) (s : List ℕ) → Walk g x s y → Walk g' (f x) s (f y)) → ((x y : ℕ) (s : List ℕ) → Walk g' x s y → Walk g (h x) s (h y))
    → (w : ℕ → ℕ) (k : ℕ) → CrossingWeight g w k → CrossingWeight g' w k
crossing_carried g g' f h mark back on off w k c = record {
  a_walk = let (x, y, s, l, r, a, p) = c.a_walk in (f x, f y, s, mark 1 x l.0 l.1, mark 2 y r.0 r.1, on x y s a, p);
  every_walk = λ x y s l r a. c.every_walk (h x) (h y) s (back 1 x l.0 l.1) (back 2 y r.0 r.1) (off x y s a);
}

-- what the call promises
pub promise : {v e : ℕ} {order : List ℕ} {c₀ c : ReorderColumns} → VerticesReordered v e order c₀ c → ReorderedVertices v e order c₀ (Ok tt) c
promise (vertices_reordered κs a s h) = h

-- an accepted reordering
module _ (v e : ℕ) (order : List ℕ) (c₀ c : ReorderColumns) (call : ReorderedVertices v e order c₀ (Ok tt) c) where
  pub refusal_is : reorder_refusal v e order c₀ ≡ 0
  refusal_is = zero_of call.answers

  pub k : ReorderMet v e order c₀
  k = reorder_met v e order c₀ refusal_is

  pub o : IsOrder order
  o = k.order_is

  -- ---- the graph: ends renamed, what belongs to a vertex read at its new number

  ends_at : (a a' : List ℕ) → a' ≡ over (renamed order (take e a)) a → e ≤ length a → (i : ℕ) → i < e → get_or a' i 0 ≡ new_number order (get_or a i 0)
  ends_at a a' p long i h =
      let l : length (take e a) ≡ e = length-take-le e a long in
      ap (λ (t : List ℕ). get_or t i 0) p ∙ over-in (renamed order (take e a)) a 0 i (omega (arith, length-map (take e a) (new_number order)))
      ∙ map_at (new_number order) (take e a) 0 i (omega arith) ∙ ap (new_number order) (get_or-take e a i 0 h)

  pub ends_a_renamed : (i : ℕ) → i < e → get_or c.ends_a i 0 ≡ new_number order (get_or c₀.ends_a i 0)
  ends_a_renamed = ends_at c₀.ends_a c.ends_a (call.ends_a_after ∙ after-accepted (reorder_refusal v e order c₀) (renamed order (take e c₀.ends_a)) c₀.ends_a refusal_is) k.sound.graph.long_a

  pub ends_b_renamed : (i : ℕ) → i < e → get_or c.ends_b i 0 ≡ new_number order (get_or c₀.ends_b i 0)
  ends_b_renamed = ends_at c₀.ends_b c.ends_b (call.ends_b_after ∙ after-accepted (reorder_refusal v e order c₀) (renamed order (take e c₀.ends_b)) c₀.ends_b refusal_is) k.sound.graph.long_b

  pub column-at : {A : Type 0} (d : A) (x x' : List A) → x' ≡ over (moved order d x) x → (i : ℕ) → i < v → get_or x' i d ≡ get_or x (get_or order i 0) d
  column-at d x x' p i h =
      ap (λ (t : List _). get_or t i d) p ∙ over-in (moved order d x) x d i (omega (arith, length-map order (λ u. get_or x u d), k.many))
      ∙ map_at (λ u. get_or x u d) order d i (omega (arith, k.many))

  pub boundary-moved : (i : ℕ) → i < v → get_or c.boundary i 0 ≡ get_or c₀.boundary (get_or order i 0) 0
  boundary-moved = column-at 0 c₀.boundary c.boundary (call.boundary_after ∙ after-accepted (reorder_refusal v e order c₀) (moved order 0 c₀.boundary) c₀.boundary refusal_is)

  pub defect-moved : (i : ℕ) → i < v → get_or c.defect i 0 ≡ get_or c₀.defect (get_or order i 0) 0
  defect-moved = column-at 0 c₀.defect c.defect (call.defect_after ∙ after-accepted (reorder_refusal v e order c₀) (moved order 0 c₀.defect) c₀.defect refusal_is)

  pub in_order : (u : ℕ) → u < v → u < length order
  in_order u h = omega (arith, k.many)

  pub new_in : (u : ℕ) → u < v → new_number order u < v
  new_in u h = omega (arith, new-below order o u (in_order u h), k.many)

  pub boundary_kept : (u : ℕ) → u < v → get_or c.boundary (new_number order u) 0 ≡ get_or c₀.boundary u 0
  boundary_kept u h = boundary-moved (new_number order u) (new_in u h) ∙ ap (λ (x : ℕ). get_or c₀.boundary x 0) (old_of_new order o u (in_order u h))

  -- ---- question 7

  same_old : (x y : ℕ) → x < v → y < v → new_number order x ≡ new_number order y → x ≡ y
  same_old x y h g = new-differ order o x y (in_order x h) (in_order y g)

  in_a : (i : ℕ) → i < e → get_or c₀.ends_a i 0 < v
  in_a = k.sound.graph.in_a

  in_b : (i : ℕ) → i < e → get_or c₀.ends_b i 0 < v
  in_b = k.sound.graph.in_b

  back : (x y : List ℕ) (j i : ℕ) → get_or x j 0 < v → get_or y i 0 < v → {p q : ℕ} → p ≡ new_number order (get_or x j 0) → q ≡ new_number order (get_or y i 0) → p ≡ q → get_or x j 0 ≡ get_or y i 0
  back x y j i h g ep eq r = same_old (get_or x j 0) (get_or y i 0) h g (sym ep ∙ r ∙ eq)

  graph_kept : SoundGraph v e c.ends_a c.ends_b
  graph_kept =
      let a = c₀.ends_a in
      let b = c₀.ends_b in
      let s = k.sound.graph in
      record {
        some_vertex = s.some_vertex;
        few_vertices = s.few_vertices;
        few_edges = s.few_edges;
        long_a = omega (arith, s.long_a, ap length (call.ends_a_after ∙ after-accepted (reorder_refusal v e order c₀) (renamed order (take e c₀.ends_a)) c₀.ends_a refusal_is) ∙ length_over (renamed order (take e a)) a (omega (arith, length-map (take e a) (new_number order), length-take e a)));
        long_b = omega (arith, s.long_b, ap length (call.ends_b_after ∙ after-accepted (reorder_refusal v e order c₀) (renamed order (take e c₀.ends_b)) c₀.ends_b refusal_is) ∙ length_over (renamed order (take e b)) b (omega (arith, length-map (take e b) (new_number order), length-take e b)));
        in_a = λ i h. subst (λ (x : ℕ). x < v) (sym (ends_a_renamed i h)) (new_in (get_or a i 0) (in_a i h));
        in_b = λ i h. subst (λ (x : ℕ). x < v) (sym (ends_b_renamed i h)) (new_in (get_or b i 0) (in_b i h));
        differ = λ i h q. s.differ i h (back a b i i (in_a i h) (in_b i h) (ends_a_renamed i h) (ends_b_renamed i h) q);
        apart = λ j i l h q.
            let h' : j < e = omega arith in
            s.apart j i l h (⊎_elim
            (λ (w : (get_or c.ends_a j 0 ≡ get_or c.ends_a i 0) × (get_or c.ends_b j 0 ≡ get_or c.ends_b i 0)).
            inl (back a a j i (in_a j h') (in_a i h) (ends_a_renamed j h') (ends_a_renamed i h) w.0, back b b j i (in_b j h') (in_b i h) (ends_b_renamed j h') (ends_b_renamed i h) w.1))
            (λ (w : (get_or c.ends_a j 0 ≡ get_or c.ends_b i 0) × (get_or c.ends_b j 0 ≡ get_or c.ends_a i 0)).
            inr (back a b j i (in_a j h') (in_b i h) (ends_a_renamed j h') (ends_b_renamed i h) w.0, back b a j i (in_b j h') (in_a i h) (ends_b_renamed j h') (ends_a_renamed i h) w.1))
            q);
      }

  bytes-kept : (limit : ℕ) (x x' : List ℕ) → v ≤ length x → ((i : ℕ) → i < v → get_or x' i 0 ≡ get_or x (get_or order i 0) 0) → all_within limit (take v x) ≡ true → all_within limit (take v x') ≡ true
  bytes-kept limit x x' long p w = at_within limit (take v x') (λ i h.
      let b : i < v = omega (arith, length-take v x') in
      subst (λ (y : ℕ). y ≤ limit) (sym (get_or-take v x' i 0 b ∙ p i b)) (within_first limit v x w long (get_or order i 0) (omega (arith, order_below order o i (in_order i b), k.many))))

  pub question-7-kept : reorder_sound v e c.ends_a c.ends_b c.boundary c.defect ≡ true
  unfolding reorder_sound code_sound
  question-7-kept = both_and
      (both_and (says-graph v e c.ends_a c.ends_b graph_kept) (bytes-kept 2 c₀.boundary c.boundary k.long_boundary boundary-moved k.sound.boundaries))
      (bytes-kept 1 c₀.defect c.defect k.long_defect defect-moved k.marks)

  -- ---- walks

  abbrev old : Graph
  old = reorder_graph v e c₀

  abbrev new : Graph
  new = reorder_graph v e c

  edge_in : (x : List ℕ) (i : ℕ) → e ≤ length x → i < length (take e x) → i < e
  edge_in x i long h = omega (arith, length-take e x)

  a-new : (i : ℕ) → i < e → end_a new i ≡ new_number order (end_a old i)
  a-new i h = get_or-take e c.ends_a i 0 h ∙ ends_a_renamed i h ∙ ap (new_number order) (sym (get_or-take e c₀.ends_a i 0 h))

  b-new : (i : ℕ) → i < e → end_b new i ≡ new_number order (end_b old i)
  b-new i h = get_or-take e c.ends_b i 0 h ∙ ends_b_renamed i h ∙ ap (new_number order) (sym (get_or-take e c₀.ends_b i 0 h))

  a-old : (i : ℕ) → i < e → end_a old i ≡ get_or order (end_a new i) 0
  a-old i h =
      let in_range : end_a old i < v = subst (λ (x : ℕ). x < v) (sym (get_or-take e c₀.ends_a i 0 h)) (in_a i h) in
      sym (old_of_new order o (end_a old i) (in_order (end_a old i) in_range)) ∙ ap (λ (x : ℕ). get_or order x 0) (sym (a-new i h))

  b-old : (i : ℕ) → i < e → end_b old i ≡ get_or order (end_b new i) 0
  b-old i h =
      let in_range : end_b old i < v = subst (λ (x : ℕ). x < v) (sym (get_or-take e c₀.ends_b i 0 h)) (in_b i h) in
      sym (old_of_new order o (end_b old i) (in_order (end_b old i) in_range)) ∙ ap (λ (x : ℕ). get_or order x 0) (sym (b-new i h))

  joins-by : (g g' : Graph) (f : ℕ → ℕ) (i x y : ℕ) → end_a g' i ≡ f (end_a g i) → end_b g' i ≡ f (end_b g i) → Joins g i x y → Joins g' i (f x) (f y)
  joins-by g g' f i x y p q j = ⊎_elim
      (λ (w : (end_a g i ≡ x) × (end_b g i ≡ y)). inl (p ∙ ap f w.0, q ∙ ap f w.1))
      (λ (w : (end_a g i ≡ y) × (end_b g i ≡ x)). inr (p ∙ ap f w.0, q ∙ ap f w.1))
      j

  -- a walk along the edges s becomes a walk along the same edges, so of the same weight, between the new numbers; and back
  pub walk_kept : {x y : ℕ} {s : List ℕ} → Walk old x s y → Walk new (new_number order x) s (new_number order y)
  walk_kept stay = stay
  walk_kept (step {x} {y} {e = i} h j w) =
      let b : i < e = edge_in c₀.ends_a i k.sound.graph.long_a h in
      step {e = i} (omega (arith, length-take e c.ends_a, graph_kept.long_a)) (joins-by old new (new_number order) i x y (a-new i b) (b-new i b) j) (walk_kept w)

  walk-back : {x y : ℕ} {s : List ℕ} → Walk new x s y → Walk old (get_or order x 0) s (get_or order y 0)
  walk-back stay = stay
  walk-back (step {x} {y} {e = i} h j w) =
      let b : i < e = edge_in c.ends_a i graph_kept.long_a h in
      step {e = i} (omega (arith, length-take e c₀.ends_a, k.sound.graph.long_a)) (joins-by new old (λ u. get_or order u 0) i x y (a-old i b) (b-old i b) j) (walk-back w)

  mark-kept : (m x : ℕ) → x < v → boundary_at old x ≡ m → (new_number order x < v) × (boundary_at new (new_number order x) ≡ m)
  mark-kept m x h p =
      let b = new_in x h in
      (b, get_or-take v c.boundary (new_number order x) 0 b ∙ boundary_kept x h ∙ sym (get_or-take v c₀.boundary x 0 h) ∙ p)

  mark-back : (m n : ℕ) → n < v → boundary_at new n ≡ m → (get_or order n 0 < v) × (boundary_at old (get_or order n 0) ≡ m)
  mark-back m n h p =
      let b : get_or order n 0 < v = omega (arith, order_below order o n (in_order n h), k.many) in
      (b, get_or-take v c₀.boundary (get_or order n 0) 0 b ∙ sym (boundary-moved n h) ∙ sym (get_or-take v c.boundary n 0 h) ∙ p)

  pub crossing-kept : (w : ℕ → ℕ) (i : ℕ) → CrossingWeight old w i ↔ CrossingWeight new w i
  crossing-kept w i = (
    crossing_carried old new (new_number order) (λ n. get_or order n 0) mark-kept mark-back (λ x y s a. walk_kept a) (λ x y s a. walk-back a) w i,
    crossing_carried new old (λ n. get_or order n 0) (new_number order) mark-back mark-kept (λ x y s a. walk-back a) (λ x y s a. walk_kept a) w i,
  )

  -- back from the new numbers
  pub walk_from : (x y : ℕ) {s : List ℕ} → x < v → y < v → Walk new (new_number order x) s (new_number order y) → Walk old x s y
  walk_from x y {s} h g w =
      subst (λ (u : ℕ). Walk old u s y) (old_of_new order o x (in_order x h))
      (subst (λ (u : ℕ). Walk old (get_or order (new_number order x) 0) s u) (old_of_new order o y (in_order y g)) (walk-back w))

  -- ---- what a syndrome reads

  pub graph-renamed : GraphRenamed v e order c₀ c
  graph-renamed = record {
    order_is = o;
    many = k.many;
    in_a = in_a;
    in_b = in_b;
    ends_a_renamed = ends_a_renamed;
    ends_b_renamed = ends_b_renamed;
    boundary_kept = boundary_kept;
  }
