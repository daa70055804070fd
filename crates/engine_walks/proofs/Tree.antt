-- The previous vertices lead back to the source, and what is read back is a path: whatever the tie rule. Assumes nothing.
use mathlib.Core.Path.{◌≡◌, refl, sym, ap, ◌∙◌, subst}
use mathlib.Core.Logic.{⊎_elim, ◌≢◌}
use mathlib.Core.Bool.{Bool}
use mathlib.Core.List.{List, [], ◌∷◌, ◌++◌, map}
use mathlib.Core.Option.{Option, none}
use Prim.Native.Nat.{ℕ, zero, suc, ◌+◌, ◌≤◌, ◌<◌}
use native.Mathlib.Decide.{ℕ_discrete}
use native.Mathlib.Omega.{arith}
use borrow.Author.Tests.{eq-eqb, ne_eqb}
use Rattle.engine_walks.specs.Lists.{bit, sum, All, Distinct}
use Rattle.engine_walks.specs.Graph.{Graph, edges, Joins, GraphInRange}
use Rattle.engine_walks.specs.Settling.{State, status_at, weight_at, previous_at, start, settle}
use Rattle.engine_walks.specs.Answers.{read_back_of, step_into}
use Rattle.engine_walks.specs.Claims.{Route, arrived, onto}
use Rattle.engine_walks.proofs.Sums.{sum_snoc, all_snoc, all_map, distinct_snoc, count_none}
use Rattle.engine_walks.proofs.LeastWeights.{Takes, Outcome, same, new}
use Rattle.engine_walks.proofs.Turns.{Sources, start-each, start_status, start_previous, after-turns}

-- v was offered its weight by a taken vertex, its previous one
pub record FromPrevious (g : Graph) (w : ℕ → ℕ) (σ : State) (v : ℕ) : Type 0 where
  pub by : ℕ
  pub an_edge : by < edges g
  pub joins : Joins g by (previous_at σ v) v
  pub taken : status_at σ (previous_at σ v) ≡ 2
  pub adds : weight_at σ v ≡ weight_at σ (previous_at σ v) + w by

-- the way back from a taken vertex to the source a, of k steps
pub data WayBack (g : Graph) (w : ℕ → ℕ) (a : ℕ) (σ : State) : ℕ → ℕ → Type 0 where
  at_source : {v : ℕ} → v ≡ a → status_at σ v ≡ 2 → WayBack g w a σ v 0
  by_previous : {v k : ℕ} → v ≢ a → status_at σ v ≡ 2 → FromPrevious g w σ v → WayBack g w a σ (previous_at σ v) k → WayBack g w a σ v (suc k)

-- after c turns: each taken vertex leads back to the source in fewer than c steps, and each waiting one has a taken previous vertex
pub record Tree (g : Graph) (w : ℕ → ℕ) (a c : ℕ) (σ : State) : Type 0 where
  pub back : (v : ℕ) → status_at σ v ≡ 2 → (k : ℕ) × WayBack g w a σ v k × (k < c)
  pub parent : (v : ℕ) → status_at σ v ≡ 1 → v ≢ a → FromPrevious g w σ v

pub tree_more : {g : Graph} {w : ℕ → ℕ} {a c : ℕ} {σ : State} → Tree g w a c σ → Tree g w a (suc c) σ
tree_more t = record { back = λ v p. let (k, r, l) = t.back v p in (k, r, omega arith); parent = t.parent }

module _ {g : Graph} {w : ℕ → ℕ} {σ : State} {x : ℕ} {σ' : State} (t : Takes g w σ x σ') where
  previous-kept : (v : ℕ) → weight_at σ' v ≡ weight_at σ v → previous_at σ' v ≡ previous_at σ v → FromPrevious g w σ v → FromPrevious g w σ' v
  previous-kept v q y u =
      let z = t.kept (previous_at σ v) u.taken in
      let b : ℕ = u.by in
      record {
        by = b;
        an_edge = u.an_edge;
        joins = subst (λ p. Joins g b p v) (sym y) u.joins;
        taken = ap (status_at σ') y ∙ z.0 ∙ u.taken;
        adds = q ∙ u.adds ∙ ap (λ n. n + w b) (sym z.1 ∙ sym (ap (weight_at σ') y));
      }

  back-kept : {a v k : ℕ} → WayBack g w a σ v k → WayBack g w a σ' v k
  back-kept (at_source {v = v} e p) = at_source e ((t.kept v p).0 ∙ p)
  back-kept {a = a} (by_previous {v = v} {k = k} f p u r) =
      let z = t.kept v p in by_previous f (z.0 ∙ p) (previous-kept v z.1 z.2 u) (subst (λ y. WayBack g w a σ' y k) (sym z.2) (back-kept r))

  module _ {a c : ℕ} (small : (v : ℕ) → status_at σ v ≤ 2) (i : Tree g w a c σ) where
    previous-new : (v : ℕ) → Outcome g w x (weight_at σ x) (edges g) v σ σ' → status_at σ' v ≡ 1 → v ≢ a → FromPrevious g w σ' v
    previous-new v (same k) p f = previous-kept v k.1 k.2 (i.parent v (sym k.0 ∙ p) f)
    previous-new v (new e h j s q r z) p f = record {
      by = e;
      an_edge = h;
      joins = subst (λ y. Joins g e y v) (sym z) j;
      taken = ap (status_at σ') z ∙ t.took.0;
      adds = q ∙ ap (λ n. n + w e) (sym t.took.1 ∙ sym (ap (weight_at σ') z));
    }

    -- x itself: its entry is as it was
    back-now : (k : ℕ) × WayBack g w a σ' x k × (k < suc c)
    back-now = elim (ℕ_discrete x a) [
      | yes e ↦ (0, at_source e t.took.0, omega arith)
      | no f ↦
          let u = i.parent x t.waits f in
          let (k, r, l) = i.back (previous_at σ x) u.taken in
          let b : WayBack g w a σ' (previous_at σ' x) k = subst (λ y. WayBack g w a σ' y k) (sym t.took.2) (back-kept r) in
          (suc k, by_previous f t.took.0 (previous-kept x t.took.1 t.took.2 u) b, omega arith)
    ]

    back-new : (v : ℕ) → status_at σ' v ≡ 2 → (k : ℕ) × WayBack g w a σ' v k × (k < suc c)
    back-new v p = elim (ℕ_discrete v x) [
      | yes e ↦ subst (λ y. (k : ℕ) × WayBack g w a σ' y k × (k < suc c)) (sym e) back-now
      | no f ↦ elim (ℕ_discrete (status_at σ v) 2) [
        | yes q ↦ let (k, r, l) = i.back v q in (k, back-kept r, omega arith)
        | no q ↦ absurd (none (omega (arith, small v)) (t.other v f (omega (arith, small v))))
      ]
    ]
      where
        none : status_at σ v ≤ 1 → Outcome g w x (weight_at σ x) (edges g) v σ σ' → ⊥
        none l (same k) = omega arith
        none l (new e h j s q r z) = omega arith

    pub tree-step : Tree g w a (suc c) σ'
    tree-step = record {
      back = back-new;
      parent = λ v p f. elim (ℕ_discrete v x) [
        | yes e ↦ absurd (omega (arith, ap (status_at σ') e, t.took))
        | no z ↦ elim (ℕ_discrete (status_at σ v) 2) [
          | yes q ↦ absurd (omega (arith, t.kept v q))
          | no q ↦ previous-new v (t.other v z (omega (arith, small v))) p f
        ]
      ];
    }

-- ---- settling from one source keeps it

-- before the first turn just the source waits; after it the source is taken, with itself as previous
pub data Rooted (a : ℕ) (σ : State) : Type 0 where
  at_start : status_at σ a ≡ 1 → previous_at σ a ≡ a → ((v : ℕ) → v ≢ a → status_at σ v ≡ 0) → Rooted a σ
  later : status_at σ a ≡ 2 → previous_at σ a ≡ a → Rooted a σ

rooted_step : {g : Graph} {w : ℕ → ℕ} {σ σ' : State} {x a : ℕ} → Takes g w σ x σ' → Rooted a σ → Rooted a σ'
rooted_step {σ = σ} {σ' = σ'} {x = x} {a = a} t (at_start p q f) = elim (ℕ_discrete x a) [
  | yes e ↦ later (ap (status_at σ') (sym e) ∙ t.took.0) (ap (previous_at σ') (sym e) ∙ t.took.2 ∙ ap (previous_at σ) e ∙ q)
  | no k ↦ absurd (omega (arith, t.waits, f x k))
]
rooted_step {a = a} t (later p q) = let k = t.kept a p in later (k.0 ∙ p) (k.2 ∙ q)

module _ {g : Graph} (ok : GraphInRange g) (w : ℕ → ℕ) {source : ℕ → Bool} {a : ℕ} (n : Sources g source (λ v. v ≡ a)) (end : Option ℕ) where
  start-other : (v : ℕ) → v ≢ a → status_at (start g source) v ≡ 0
  start-other v f = ⊎_elim (λ e. e) (λ e. absurd (f e.1)) (start-each n v)

  start-source : status_at (start g source) a ≡ 1
  start-source = omega (arith, start_status g source a (n.inside a refl), ap bit (n.passes a refl))

  start-tree : Tree g w a 0 (start g source)
  start-tree = record {
    back = λ v p. absurd (⊎_elim (λ e. omega arith) (λ e. omega arith) (start-each n v));
    parent = λ v p f. absurd (omega (arith, start-other v f));
  }

  pub tree-settle : (k : ℕ) → Tree g w a k (settle g w source end k)
  tree-settle k = (after-turns ok w n end (Tree g w a) start-tree (λ k s t. tree_more t) (λ k x s s' i f t h. tree-step t i.inv.small h) k).1

  pub rooted-settle : (k : ℕ) → Rooted a (settle g w source end k)
  rooted-settle k =
      (after-turns ok w n end (λ k s. Rooted a s) (at_start start-source (start_previous g source a (n.inside a refl)) start-other)
      (λ k s r. r) (λ k x s s' i f t r. rooted_step t r) k).1

-- ---- the path, read back

on_last : {g : Graph} {w : ℕ → ℕ} {x y z c : ℕ} {vs cs : List ℕ} → Route g w x vs cs y → (e : ℕ) → e < edges g → Joins g e y z → c ≡ w e
    → Route g w x (vs ++ (z ∷ [])) (cs ++ (c ∷ [])) z
on_last arrived e h j q = onto e h j q arrived
on_last (onto d k i p r) e h j q = onto d k i p (on_last r e h j q)

map_last : (f : ℕ → ℕ) (l : List ℕ) (x : ℕ) → map f (l ++ (x ∷ [])) ≡ map f l ++ (f x ∷ [])
map_last f [] x = refl
map_last f (y ∷ l) x = ap (λ r. f y ∷ r) (map_last f l x)

-- u is not the source a, and leads back to it in at most k steps
abbrev Within : (g : Graph) (w : ℕ → ℕ) (a : ℕ) (σ : State) → ℕ → ℕ → Type 0
Within g w a σ k u = (u ≢ a) × (l : ℕ) × WayBack g w a σ u l × (l ≤ k)

module _ {g : Graph} {w : ℕ → ℕ} {a : ℕ} {σ : State} where
  -- a law of what is read back: it holds of no vertex at the source, and of v behind what is read back from its previous vertex
  module _ (P : (k v : ℕ) → List ℕ → Type 0) (empty : P 0 a [])
      (behind : (v k : ℕ) (l : List ℕ) → v ≢ a → WayBack g w a σ v (suc k) → FromPrevious g w σ v → P k (previous_at σ v) l → P (suc k) v (l ++ (v ∷ []))) where
    read-law : {v k : ℕ} (n : ℕ) → WayBack g w a σ v k → k < n → P k v (read_back_of σ a n v)
    unfolding read_back_of
    read-law zero c h = absurd (omega arith)
    read-law (suc n) (at_source {v = v} e p) h = rw (eq-eqb v a e) (subst (λ z. P 0 z []) (sym e) empty)
    read-law (suc n) (by_previous {v = v} {k = k} f p u r) h =
        rw (ne_eqb v a f, eq-eqb (status_at σ v) 2 p)
        (behind v k (read_back_of σ a n (previous_at σ v)) f (by_previous f p u r) u (read-law {v = previous_at σ v} {k = k} n r (omega arith)))

  -- it is a walk, by its vertices and the weights of its steps
  pub read_back : {v k : ℕ} (n : ℕ) → WayBack g w a σ v k → k < n → Route g w a (read_back_of σ a n v) (map (step_into σ) (read_back_of σ a n v)) v
  unfolding step_into
  read_back = read-law (λ k v l. Route g w a l (map (step_into σ) l) v) arrived
      (λ v k l f c u r. rw (map_last (step_into σ) l v) (on_last r u.by u.an_edge u.joins (omega (arith, u.adds))))

  -- the steps' weights sum to the weight
  pub read-total : {v k : ℕ} (n : ℕ) → weight_at σ a ≡ 0 → WayBack g w a σ v k → k < n → sum (read_back_of σ a n v) (step_into σ) ≡ weight_at σ v
  unfolding step_into
  read-total n z = read-law (λ k v l. sum l (step_into σ) ≡ weight_at σ v) (sym z) (λ v k l f c u r. rw (sum_snoc l v (step_into σ)) (omega (arith, r, u.adds))) n

  -- a vertex leads back in one number of steps
  back_one : {v k l : ℕ} → WayBack g w a σ v k → WayBack g w a σ v l → k ≡ l
  back_one (at_source e p) (at_source d q) = refl
  back_one (at_source e p) (by_previous f q u r) = absurd (f e)
  back_one (by_previous f p u r) (at_source d q) = absurd (f d)
  back_one (by_previous f p u r) (by_previous b q y s) = ap suc (back_one r s)

  -- so no vertex is met twice
  pub read-once : {v k : ℕ} (n : ℕ) → WayBack g w a σ v k → k < n → Distinct (a ∷ read_back_of σ a n v)
  read-once n c h =
      let r = read-law (λ k v l. All (Within g w a σ k) l × Distinct l) (tt, tt) more n c h in
      (count_none (read_back_of σ a n _) a (all_map (λ u p. p.0) (read_back_of σ a n _) r.0), r.1)
    where
      more : (v k : ℕ) (l : List ℕ) → v ≢ a → WayBack g w a σ v (suc k) → FromPrevious g w σ v → All (Within g w a σ k) l × Distinct l
          → All (Within g w a σ (suc k)) (l ++ (v ∷ [])) × Distinct (l ++ (v ∷ []))
      more v k l f c u r = (
        all_snoc (Within g w a σ (suc k)) l v (all_map (λ x p. (p.0, p.1, p.2, omega (arith, p.3))) l r.0) (f, suc k, c, omega arith),
        distinct_snoc l v r.1 (all_map (λ x p q. omega (arith, p.3, back_one (subst (λ y. WayBack g w a σ y p.1) q p.2) c)) l r.0),
      )
