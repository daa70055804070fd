-- Settling, its table and its path, as claimed: read off the invariants. Assumes nothing.
use mathlib.Core.Path.{◌≡◌, refl, sym, ap, ◌∙◌, subst}
use mathlib.Core.Logic.{◌⊎◌, inl, inr, ⊎_elim, ◌≢◌}
use mathlib.Core.Bool.{Bool, true, false, cond}
use mathlib.Core.List.{List}
use mathlib.Core.Option.{Option, some, none}
use Prim.Native.Nat.{ℕ, ◌<◌}
use native.Mathlib.Decide.{ℕ_discrete, dec_lt}
use native.Mathlib.Omega.{arith}
use lib.ListN.{length, get_or, get_or-eq_default}
use lib.IntN.{pos, negsuc}
use borrow.Author.Tests.{eqb-true, eqb-false, eq-eqb, ne_eqb}
use Rattle.columns.specs.Lists.{each}
use Rattle.engine_walks.specs.Graph.{Graph, GraphInRange, Joined, LeastWeight}
use Rattle.engine_walks.specs.Settling.{State, status_at, weight_at, previous_at, settled}
use Rattle.engine_walks.specs.Answers.{only, taken, weight_in, table_weight, table_previous, TableColumns, table, read_back_of, step_into, path_in, path}
use Rattle.engine_walks.specs.Claims.{EndTaken, SettlingIsLeast, LastStep, LeadsBack, Row, Unstopped, EndRow, IsTable, TableIsLeast, IsPath, PathAnswer, PathIsLeast}
use Rattle.columns.proofs.Counting.{length-each, getD-each}
use Rattle.engine_walks.proofs.Sums.{sum-map}
use Rattle.engine_walks.proofs.LeastWeights.{least, open-no-lighter, all-taken}
use Rattle.engine_walks.proofs.Turns.{Sources, test_sources, Valid, not_absent_in, Resting, settle-valid, settled-rests, end_taken}
use Rattle.engine_walks.proofs.Stopping.{end-last}
use Rattle.engine_walks.proofs.Tree.{FromPrevious, WayBack, at_source, by_previous, Tree, tree-settle, Rooted, at_start, later, rooted-settle, read_back, read-total, read-once}

-- ---- settling

pub settling_is_least : SettlingIsLeast
settling_is_least g w source end ok =
    let i = settle-valid ok w (test_sources g source) end g.vertices in record {
      least = least i.inv;
      done = ⊎_elim inl (λ e. inr (end_taken source end (settled g w source end) e)) (settled-rests ok w (test_sources g source) end).0;
      unreached = λ d x v p f j. f (all-taken i.inv d p j.1);
    }

-- ---- one source

pub only_source : {g : Graph} {a : ℕ} → a < g.vertices → Sources g (only a) (λ v. v ≡ a)
only_source {g} {a} h = record { inside = λ v e. omega arith; passes = λ v e. eq-eqb v a e; named = λ v l e. eqb-true v a e }

-- a column of the table at a vertex that was taken, and at one that was not
module _ {A : Type 0} (n : ℕ) (s : State) (f : ℕ → A) (d : A) where
  pub column-taken : (v : ℕ) → v < n → status_at s v ≡ 2 → get_or (each n (λ v. cond (taken s v) (f v) d)) v d ≡ f v
  column-taken v h e = getD-each n (λ v. cond (taken s v) (f v) d) d v h ∙ ap (λ b. cond b (f v) d) (eq-eqb (status_at s v) 2 e)

  pub column-other : (v : ℕ) → v < n → status_at s v ≢ 2 → get_or (each n (λ v. cond (taken s v) (f v) d)) v d ≡ d
  column-other v h e = getD-each n (λ v. cond (taken s v) (f v) d) d v h ∙ ap (λ b. cond b (f v) d) (ne_eqb (status_at s v) 2 e)

module _ {g : Graph} (ok : GraphInRange g) (w : ℕ → ℕ) {a : ℕ} (h : a < g.vertices) (end : Option ℕ) where
  abbrev S : State
  S = settled g w (only a) end

  valid : Valid g w (λ v. v ≡ a) S
  valid = settle-valid ok w (only_source h) end g.vertices

  in_range : (v : ℕ) → status_at S v ≡ 2 → v < g.vertices
  in_range v e = not_absent_in {k = 1} {s = S} valid.fits e

  tree : Tree g w a g.vertices S
  tree = tree-settle ok w (only_source h) end g.vertices

  -- the source is taken in the end: it waits only before the first turn
  source-taken : (status_at S a ≡ 2) × (previous_at S a ≡ a)
  source-taken = go (rooted-settle ok w (only_source h) end g.vertices) (settled-rests ok w (only_source h) end).0
    where
      stops-not : (end : Option ℕ) → status_at S a ≡ 1 → ((v : ℕ) → v ≢ a → status_at S v ≡ 0) → EndTaken (only a) end S → ⊥
      stops-not none p f e = e
      stops-not (some b) p f e = omega (arith, e.1, f b (λ q. e.0 (eq-eqb b a q)))

      go : Rooted a S → Resting (only a) end S → (status_at S a ≡ 2) × (previous_at S a ≡ a)
      go (later p q) r = (p, q)
      go (at_start p q f) (inl r) = absurd (r a p)
      go (at_start p q f) (inr r) = absurd (stops-not end p f (end_taken (only a) end S r))

  -- where settling does not stop, what is not taken is joined by no walk
  not_joined : ((v : ℕ) → status_at S v ≢ 1) → (v : ℕ) → status_at S v ≢ 2 → ¬ Joined g a v
  not_joined d v f j = f (all-taken valid.inv d refl j.1)

  -- ---- the table

  abbrev rows : TableColumns
  rows = table g w a end

  rows_fit : length rows.weights ≡ g.vertices
  unfolding table
  rows_fit = length-each g.vertices (table_weight S)

  weight-taken : (v : ℕ) → status_at S v ≡ 2 → weight_in rows.weights v ≡ pos (weight_at S v)
  unfolding table
  weight-taken v e = column-taken g.vertices S (λ v. pos (weight_at S v)) (negsuc 0) v (in_range v e) e

  previous-taken : (v : ℕ) → status_at S v ≡ 2 → get_or rows.previous v 0 ≡ previous_at S v
  unfolding table
  previous-taken v e = column-taken g.vertices S (previous_at S) 0 v (in_range v e) e

  weight-other : (v : ℕ) → v < g.vertices → status_at S v ≢ 2 → weight_in rows.weights v ≡ negsuc 0
  unfolding table
  weight-other v l e = column-other g.vertices S (λ v. pos (weight_at S v)) (negsuc 0) v l e

  previous-other : (v : ℕ) → v < g.vertices → status_at S v ≢ 2 → get_or rows.previous v 0 ≡ 0
  unfolding table
  previous-other v l e = column-other g.vertices S (previous_at S) 0 v l e

  step-into : (v : ℕ) → status_at S v ≡ 2 → FromPrevious g w S v → LastStep g w rows v (weight_at S v)
  step-into v e u = record {
    edge = u.by;
    in_graph = u.an_edge;
    joins = rw (previous-taken v e) u.joins;
    earlier = weight_at S (previous_at S v);
    is_earlier = rw (previous-taken v e) (weight-taken (previous_at S v) u.taken);
    adds = u.adds;
  }

  leads-back : {v k : ℕ} → WayBack g w a S v k → LeadsBack g w a rows v k
  leads-back (at_source e p) = subst (λ v. LeadsBack g w a rows v 0) (sym e) LeadsBack.source
  leads-back (by_previous {v = v} {k = k} f p u r) =
      LeadsBack.onward f (weight-taken v p) (step-into v p u) (subst (λ x. LeadsBack g w a rows x k) (sym (previous-taken v p)) (leads-back r))

  row : (v : ℕ) → v < g.vertices → Row g w a rows v
  row v l = elim (ℕ_discrete (status_at S v) 2) [
    | yes e ↦ let (k, c, b) = tree.back v e in inl (weight_at S v, weight-taken v e, least valid.inv v e, k, b, leads-back c)
    | no f ↦ inr (weight-other v l f, previous-other v l f)
  ]

  -- ---- the end

  -- a row says whether its vertex was taken, and with which weight
  row_other : (v : ℕ) → weight_in rows.weights v ≡ negsuc 0 → status_at S v ≢ 2
  row_other v e p = let q = weight-taken v p in let z : ◌≡◌ {A = ℕ} 0 1 = cc in omega arith

  row-taken : (v k : ℕ) → weight_in rows.weights v ≡ pos k → (status_at S v ≡ 2) × (weight_at S v ≡ k)
  row-taken v k e = elim (dec_lt v g.vertices) [
    | yes l ↦ elim (ℕ_discrete (status_at S v) 2) [
      | yes p ↦ let q = weight-taken v p in (p, cc)
      | no f ↦ let q = weight-other v l f in absurd (let z : ◌≡◌ {A = ℕ} 0 1 = cc in omega arith)
    ]
    | no l ↦ let q = get_or-eq_default rows.weights (negsuc 0) {n = v} (omega (arith, rows_fit)) in absurd (let z : ◌≡◌ {A = ℕ} 0 1 = cc in omega arith)
  ]

  -- where no end stopped the search nothing waits
  unstopped : (o : Option ℕ) → Unstopped a rows o → EndTaken (only a) o S → ⊥
  unstopped none n e = e
  unstopped (some b) (inl n) e = e.0 (eq-eqb b a n)
  unstopped (some b) (inr n) e = row_other b n e.1

  nothing-waits : Unstopped a rows end → (v : ℕ) → status_at S v ≢ 1
  nothing-waits n = ⊎_elim (λ d. d) (λ d. absurd (unstopped end n (end_taken (only a) end S d))) (settled-rests ok w (only_source h) end).0

  reached : (b : ℕ) → end ≡ some b → Joined g a b → (k : ℕ) × (weight_in rows.weights b ≡ pos k) × LeastWeight g w (λ x. x ≡ a) b k
  reached b e j = elim (ℕ_discrete (status_at S b) 2) [
    | yes p ↦ (weight_at S b, weight-taken b p, least valid.inv b p)
    | no f ↦ absurd (⊎_elim (λ d. not_joined d b f j) (λ d. f (named end e (end_taken (only a) end S d))) (settled-rests ok w (only_source h) end).0)
  ]
    where
      named : (o : Option ℕ) → o ≡ some b → EndTaken (only a) o S → status_at S b ≡ 2
      named none q e = absurd (let z : ◌≡◌ {A = ℕ} 0 1 = cc in omega arith)
      named (some c) q e = let z : c ≡ b = cc in ap (status_at S) (sym z) ∙ e.1

  row-of-end : (b : ℕ) → end ≡ some b → EndRow g w a rows b
  row-of-end b e = record {
    reached = reached b e;
    none_before = λ k v s p q r. omega (arith, row-taken b k p, open-no-lighter valid.inv b (row-taken b k p).0 refl r (row_other v q));
    none_after = λ f k v j p q. omega (
      arith,
      row-taken b k p,
      row-taken v j q,
      end-last ok w (only_source h) end g.vertices b v e (λ z. f (eqb-true b a z)) (row-taken b k p).0 (row-taken v j q).0,
    );
  }

  pub table_is : IsTable g w a end rows
  unfolding table
  table_is = record {
    weights_fit = rows_fit;
    previous_fit = length-each g.vertices (table_previous S);
    source = (
      weight-taken a source-taken.0 ∙ ap pos (valid.inv.source a refl).1,
      previous-taken a source-taken.0 ∙ source-taken.1,
    );
    rows = row;
    unreached = λ n v l e. not_joined (nothing-waits n) v (row_other v e);
    end_row = row-of-end;
  }

pub table_is_least : TableIsLeast
table_is_least g w a end ok h = table_is ok w h end

-- ---- the path

module _ {g : Graph} (ok : GraphInRange g) (w : ℕ → ℕ) {a : ℕ} (h : a < g.vertices) (b : ℕ) where
  abbrev R : State
  R = settled g w (only a) (some b)

  path-taken : status_at R b ≡ 2 → IsPath g w a b (path_in g R a b)
  unfolding path_in
  path-taken p =
      let i = settle-valid ok w (only_source h) (some b) g.vertices in
      let (k, c, l) = (tree-settle ok w (only_source h) (some b) g.vertices).back b p in
      let vs : List ℕ = read_back_of R a g.vertices b in
      record {
        route = read_back g.vertices c l;
        once = read-once g.vertices c l;
        adds = sum-map (step_into R) vs ∙ read-total g.vertices (i.inv.source a refl).1 c l;
        least = least i.inv b p;
      }

  -- b was not taken, so nothing waits, and no walk leads from a to b
  path-none : status_at R b ≢ 2 → ¬ Joined g a b
  path-none f j =
      ⊎_elim (λ d. not_joined ok w h (some b) d b f j) (λ e. f (end_taken (only a) (some b) R e).1) (settled-rests ok w (only_source h) (some b)).0

  pub path_is : PathAnswer g w a b (path g w a b)
  unfolding path
  path_is = go (taken R b) refl
    where
      go : (t : Bool) → taken R b ≡ t → PathAnswer g w a b (cond t (some (path_in g R a b)) none)
      go true e = path-taken (eqb-true (status_at R b) 2 e)
      go false e = path-none (eqb-false (status_at R b) 2 e)

pub path_is_least : PathIsLeast
path_is_least g w a b ok h = path_is ok w h b
