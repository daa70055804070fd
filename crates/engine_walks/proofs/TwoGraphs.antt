-- Two graphs alike in ends and boundary bytes: walks are the same, equal weights give equal answers, nowhere greater weights nowhere greater ones.
-- Assumes nothing.
use mathlib.Core.Path.{◌≡◌, refl, sym, ap, ◌∙◌, subst, subst₂}
use mathlib.Core.Logic.{inl, inr}
use mathlib.Core.List.{List}
use mathlib.Core.Option.{Option, some, none}
use Prim.Native.Nat.{ℕ, ◌≤◌, ◌<◌}
use native.Mathlib.Nat.{le_antisymm}
use native.Mathlib.Omega.{arith}
use lib.ListN.{length}
use lib.Seq.{ext_get_or}
use lib.IntN.{ℤ, pos, negsuc}
use Rattle.engine_walks.specs.Lists.{sum}
use Rattle.engine_walks.specs.Graph.{Graph, edges, boundary_at, GraphInRange, Joins, Walk, stay, step, Joined, LeastWeight}
use Rattle.engine_walks.specs.Answers.{weight_in, table, least_from_left, crossing}
use Rattle.engine_walks.specs.Claims.{WeightOrNone, Row, IsCrossing, CrossingAnswer, Alike, NotGreater, unreached, reached, signed, EqualAnswers, NoGreaterAnswers, WeightsCompare}
use Rattle.engine_walks.proofs.Sums.{sum_le}
use Rattle.engine_walks.proofs.UpperBound.{walk_edges}
use Rattle.engine_walks.proofs.TableAndPath.{table_is}
use Rattle.engine_walks.proofs.LeastCrossing.{crossing_is, column_is, column-length}

-- ---- alike

pub alike_sym : {g g' : Graph} → Alike g g' → Alike g' g
alike_sym k = record {
  same_vertices = sym k.same_vertices;
  same_edges = sym k.same_edges;
  same_a = λ e h. sym (k.same_a e (omega (arith, k.same_edges)));
  same_b = λ e h. sym (k.same_b e (omega (arith, k.same_edges)));
  same_byte = λ v h. sym (k.same_byte v (omega (arith, k.same_vertices)));
}

module _ {g g' : Graph} (k : Alike g g') where
  pub alike-range : GraphInRange g → GraphInRange g'
  alike-range ok = record {
    a_in = λ e h. let l : e < edges g = omega (arith, k.same_edges) in omega (arith, k.same_a e l, ok.a_in e l, k.same_vertices);
    b_in = λ e h. let l : e < edges g = omega (arith, k.same_edges) in omega (arith, k.same_b e l, ok.b_in e l, k.same_vertices);
    byte = λ v h. let l : v < g.vertices = omega (arith, k.same_vertices) in omega (arith, k.same_byte v l, ok.byte v l);
  }

  alike-joins : (e x y : ℕ) → e < edges g → Joins g e x y → Joins g' e x y
  alike-joins e x y h (inl j) = inl (sym (k.same_a e h) ∙ j.0, sym (k.same_b e h) ∙ j.1)
  alike-joins e x y h (inr j) = inr (sym (k.same_a e h) ∙ j.0, sym (k.same_b e h) ∙ j.1)

  -- a walk is a walk, whatever the weights
  pub alike-walk : {x y : ℕ} {s : List ℕ} → Walk g x s y → Walk g' x s y
  alike-walk stay = stay
  alike-walk (step {x = x} {y = y} {e = e} h j p) = step {e = e} (omega (arith, k.same_edges)) (alike-joins e x y h j) (alike-walk p)

  pub alike-joined : {x y : ℕ} → Joined g x y → Joined g' x y
  alike-joined j = (j.0, alike-walk j.1)

  alike-byte : {b : ℕ} (v : ℕ) → (v < g.vertices) × (boundary_at g v ≡ b) → (v < g'.vertices) × (boundary_at g' v ≡ b)
  alike-byte v p = (omega (arith, k.same_vertices, p.0), sym (k.same_byte v p.0) ∙ p.1)

-- ---- answers

-- two answers, compared case by case
compare : {P P' : ℕ → Type 0} {N N' : Type 0} → ((k k' : ℕ) → P k → P' k' → k ≤ k') → ((k : ℕ) → P k → N' → ⊥) → ((k : ℕ) → N → P' k → ⊥)
    → (z z' : ℤ) → WeightOrNone P N z → WeightOrNone P' N' z' → NotGreater z z'
compare f h i (pos k) (pos k') p q = reached (f k k' p q)
compare f h i (pos k) (negsuc n) p q = absurd (h k p q.1)
compare f h i (negsuc n) (pos k) p q = absurd (i k p.1 q)
compare f h i (negsuc n) (negsuc m) p q = subst₂ (λ x y. NotGreater (negsuc x) (negsuc y)) (sym p.0) (sym q.0) unreached

-- each not greater than the other: equal
both : (z z' : ℤ) → NotGreater z z' → NotGreater z' z → z ≡ z'
both (pos k) (pos k') (reached l) (reached m) = ap (λ n. pos n) (le_antisymm l m)
both (negsuc n) (negsuc m) unreached q = refl
both (pos k) (negsuc m) h q = elim h [ ]
both (negsuc n) (pos k') h q = elim h [ ]

-- columns of which each is nowhere greater than the other are equal
both_columns : {n : ℕ} (l l' : List ℤ) → length l ≡ n → length l' ≡ n → ((v : ℕ) → v < n → NotGreater (weight_in l v) (weight_in l' v))
    → ((v : ℕ) → v < n → NotGreater (weight_in l' v) (weight_in l v)) → l ≡ l'
both_columns l l' p q f h = ext_get_or (negsuc 0) l l' (p ∙ sym q) (λ v b. both (weight_in l v) (weight_in l' v) (f v (omega arith)) (h v (omega arith)))

-- the crossing weight, as a number or -1
crossing_says : (g : Graph) (w : ℕ → ℕ) (o : Option ℕ) → CrossingAnswer g w o → WeightOrNone (IsCrossing g w) (CrossingAnswer g w none) (signed o)
crossing_says g w none p = (refl, p)
crossing_says g w (some W) p = p

-- a number or -1 tells which answer it was
signed-one : (o o' : Option ℕ) → signed o ≡ signed o' → o ≡ o'
signed-one none none e = refl
signed-one none (some k) e = absurd (let z : ◌≡◌ {A = ℕ} 0 1 = cc in omega arith)
signed-one (some k) none e = absurd (let z : ◌≡◌ {A = ℕ} 0 1 = cc in omega arith)
signed-one (some k) (some m) e = cc

-- a weight of the table without end
table_says : {g : Graph} → GraphInRange g → (w : ℕ → ℕ) {a : ℕ} → a < g.vertices → (v : ℕ) → v < g.vertices
    → WeightOrNone (LeastWeight g w (λ x. x ≡ a) v) (¬ Joined g a v) (weight_in (table g w a none).weights v)
table_says {g} ok w {a} h v l = go ((table_is ok w h none).rows v l)
  where
    Holds : ℤ → Type 0
    Holds = WeightOrNone (LeastWeight g w (λ x. x ≡ a) v) (¬ Joined g a v)

    go : Row g w a (table g w a none) v → Holds (weight_in (table g w a none).weights v)
    go (inl r) = subst Holds (sym r.1) r.2
    go (inr r) = subst Holds (sym r.0) (refl, (table_is ok w h none).unreached tt v l r.0)

-- ---- nowhere greater

module _ {g g' : Graph} (ok : GraphInRange g) (k : Alike g g') {w w' : ℕ → ℕ} (m : (e : ℕ) → e < edges g → w e ≤ w' e) where
  ok' : GraphInRange g'
  ok' = alike-range k ok

  back : Alike g' g
  back = alike_sym k

  -- a walk of the second graph weighs no more in the first
  lighter : {x y : ℕ} {s : List ℕ} → Walk g' x s y → Walk g x s y × (sum s w ≤ sum s w')
  lighter {s = s} p = let q = alike-walk back p in (q, sum_le s w w' (walk_edges q) m)

  least-below : {Source Source' : ℕ → Type 0} → ((x : ℕ) → Source' x → Source x)
      → (v n n' : ℕ) → LeastWeight g w Source v n → LeastWeight g' w' Source' v n' → n ≤ n'
  least-below f v n n' c d =
      let (x, s, l, p, e) = d.some_walk in
      let q = lighter p in
      omega (arith, c.no_lighter x s (f x l) q.0, q.1)

  crossing-below : (n n' : ℕ) → IsCrossing g w n → IsCrossing g' w' n' → n ≤ n'
  crossing-below n n' c d =
      let (x, y, s, l, r, p, e) = d.walk.a_walk in
      let q = lighter p in
      omega (arith, c.walk.every_walk x y s (alike-byte back x l) (alike-byte back y r) q.0, q.1)

  pub below : NoGreaterAnswers g g' w w'
  below = record {
    crossings = compare crossing-below
        (λ n c f. let (x, y, s, l, r, p, e) = c.walk.a_walk in f x y (alike-byte k x l) (alike-byte k y r) (s, alike-walk k p))
        (λ n f c. let (x, y, s, l, r, p, e) = c.walk.a_walk in f x y (alike-byte back x l) (alike-byte back y r) (s, alike-walk back p))
        (signed (crossing g w)) (signed (crossing g' w'))
        (crossing_says g w (crossing g w) (crossing_is ok w)) (crossing_says g' w' (crossing g' w') (crossing_is ok' w'));
    columns = λ v h. compare (least-below (λ x p. alike-byte back x p) v)
        (λ n c f. let (x, s, l, p, e) = c.some_walk in f x (alike-byte k x l) (s, alike-walk k p))
        (λ n f c. let (x, s, l, p, e) = c.some_walk in f x (alike-byte back x l) (s, alike-walk back p))
        (weight_in (least_from_left g w) v) (weight_in (least_from_left g' w') v)
        (column_is ok w v h) (column_is ok' w' v (omega (arith, k.same_vertices)));
    tables = λ a v h l. compare (least-below (λ x p. p) v)
        (λ n c f. let (x, s, e, p, q) = c.some_walk in f (subst (λ x. Joined g' x v) e (s, alike-walk k p)))
        (λ n f c. let (x, s, e, p, q) = c.some_walk in f (subst (λ x. Joined g x v) e (s, alike-walk back p)))
        (weight_in (table g w a none).weights v) (weight_in (table g' w' a none).weights v)
        (table_says ok w h v l) (table_says ok' w' (omega (arith, k.same_vertices)) v (omega (arith, k.same_vertices)));
  }

-- ---- equal

module _ {g g' : Graph} (ok : GraphInRange g) (k : Alike g g') {w w' : ℕ → ℕ} (m : (e : ℕ) → e < edges g → w e ≡ w' e) where
  first_below : NoGreaterAnswers g g' w w'
  first_below = below ok k (λ e h. omega (arith, m e h))

  second_below : NoGreaterAnswers g' g w' w
  second_below = below (alike-range k ok) (alike_sym k) (λ e h. omega (arith, m e (omega (arith, k.same_edges))))

  pub equal : EqualAnswers g g' w w'
  equal = record {
    crossings = signed-one (crossing g w) (crossing g' w')
        (both (signed (crossing g w)) (signed (crossing g' w')) first_below.crossings second_below.crossings);
    columns = both_columns (least_from_left g w) (least_from_left g' w') (column-length ok w)
        (column-length (alike-range k ok) w' ∙ sym k.same_vertices)
        first_below.columns (λ v h. second_below.columns v (omega (arith, k.same_vertices)));
    tables = λ a h.
        let h' : a < g'.vertices = omega (arith, k.same_vertices) in
        both_columns (table g w a none).weights (table g' w' a none).weights (table_is ok w h none).weights_fit
        ((table_is (alike-range k ok) w' h' none).weights_fit ∙ sym k.same_vertices)
        (λ v l. first_below.tables a v h l) (λ v l. second_below.tables a v h' (omega (arith, k.same_vertices)));
  }

pub weights_compare : WeightsCompare
weights_compare g g' w w' ok k = (λ x y. (alike-joined k, alike-joined (alike_sym k)), equal ok k, below ok k)
