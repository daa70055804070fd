-- The columns stay ready: a vertex waits, a vertex is taken. Assumes nothing.
use mathlib.Core.Path.{◌≡◌, refl, sym, ap, ◌∙◌, subst}
use mathlib.Core.Logic.{◌⊎◌, inl, inr, ⊎_elim}
use mathlib.Core.Bool.{Bool, true, false, cond}
use mathlib.Core.List.{List}
use Prim.Native.Nat.{ℕ, zero, suc, ◌+◌, ◌*◌, ◌<◌, ◌≤◌}
use native.Mathlib.Decide.{ℕ_discrete}
use native.Mathlib.Omega.{arith}
use lib.ListN.{length, get_or, set, length-set}
use lib.Seq.{get_or-set_same, get_or-set_other}
use lib.Dec.{eqb}
use borrow.Author.Tests.{eq-eqb, ne_eqb}
use Rattle.columns.specs.Limits.{sum_limit}
use Rattle.query_queue.specs.Tree.{Tree}
use Rattle.query_queue.specs.Tree as Q
use Rattle.engine_walks.specs.Graph.{Graph, end_a, end_b}
use Rattle.engine_walks.specs.Settling.{State, status_at, weight_at, previous_at, changes, waits, mark, by_status, offer, relax_edge}
use Rattle.engine_walks.proofs.TurnCases.{edge-from-a, edge-from-b}
use Rattle.query_relaxing.specs.Ready.{key_of, takes_up, Ready, Listed}

-- a store into one place, read at any place
stored : (l : List ℕ) (u x v : ℕ) → u < length l → ((v ≡ u) × (get_or (set l u x) v 0 ≡ x)) ⊎ ((v ≡ u → ⊥) × (get_or (set l u x) v 0 ≡ get_or l v 0))
stored l u x v h = elim (ℕ_discrete v u) [
  | yes e ↦ inl (e, ap (λ k. get_or (set l u x) k 0) e ∙ get_or-set_same l u x 0 h)
  | no e ↦ inr (e, get_or-set_other l u v x 0 e)
]

module _ {n : ℕ} {s : State} {node leaf : List ℕ} (r : Ready n s node leaf) (node' leaf' : List ℕ) (fits : length node' ≡ length node) (tree' : Tree node' leaf' n) (u : ℕ) (inside : u < n) where
  -- u waits with weight k and previous a
  pub ready-waits : (k a : ℕ) → k < sum_limit → leaf' ≡ set leaf u (k * 4096 + u) → Ready n (waits u k a s) node' leaf'
  ready-waits k a within put = record {
    few = r.few;
    status_fits = length-set s.status u 1 ∙ r.status_fits;
    weight_fits = length-set s.weight u k ∙ r.weight_fits;
    previous_fits = length-set s.previous u a ∙ r.previous_fits;
    node_fits = omega (arith, r.node_fits);
    leaf_fits = ap length put ∙ length-set leaf u (k * 4096 + u) ∙ r.leaf_fits;
    tree = tree';
    keys = λ v h. elim (ℕ_discrete v u) [
      | yes e ↦ subst (λ z. get_or leaf' z 0 ≡ key_of (get_or (set s.status u 1) z 0) (get_or (set s.weight u k) z 0) z) (sym e)
          (ap (λ l. get_or l u 0) put ∙ get_or-set_same leaf u (k * 4096 + u) 0 (omega (arith, r.leaf_fits))
          ∙ sym (λ i. key_of (get_or-set_same s.status u 1 0 (omega (arith, r.status_fits)) i) (get_or-set_same s.weight u k 0 (omega (arith, r.weight_fits)) i) u))
      | no e ↦ ap (λ l. get_or l v 0) put ∙ get_or-set_other leaf u v (k * 4096 + u) 0 e ∙ r.keys v h
          ∙ sym (λ i. key_of (get_or-set_other s.status u v 1 0 e i) (get_or-set_other s.weight u v k 0 e i) v)
    ];
    weights_within = λ v h. ⊎_elim (λ z. omega (arith, z.1)) (λ z. omega (arith, z.1, r.weights_within v h)) (stored s.weight u k v (omega (arith, r.weight_fits)));
  }

  -- u is taken
  pub ready-takes : leaf' ≡ set leaf u Q.no_key → Ready n (mark s u) node' leaf'
  ready-takes put = record {
    few = r.few;
    status_fits = length-set s.status u 2 ∙ r.status_fits;
    weight_fits = r.weight_fits;
    previous_fits = r.previous_fits;
    node_fits = omega (arith, r.node_fits);
    leaf_fits = ap length put ∙ length-set leaf u Q.no_key ∙ r.leaf_fits;
    tree = tree';
    keys = λ v h. elim (ℕ_discrete v u) [
      | yes e ↦ subst (λ z. get_or leaf' z 0 ≡ key_of (get_or (set s.status u 2) z 0) (weight_at s z) z) (sym e)
          (ap (λ l. get_or l u 0) put ∙ get_or-set_same leaf u Q.no_key 0 (omega (arith, r.leaf_fits))
          ∙ sym (ap (λ x. key_of x (weight_at s u) u) (get_or-set_same s.status u 2 0 (omega (arith, r.status_fits)))))
      | no e ↦ ap (λ l. get_or l v 0) put ∙ get_or-set_other leaf u v Q.no_key 0 e ∙ r.keys v h
          ∙ sym (ap (λ x. key_of x (weight_at s v) v) (get_or-set_other s.status u v 2 0 e))
    ];
    weights_within = r.weights_within;
  }

-- an offer by what is accepted
pub offer_by : (a q u k : ℕ) (s : State) → offer a q u k s ≡ cond (takes_up (status_at s u) (changes u k q (weight_at s u) (previous_at s u))) (waits u k a s) s
unfolding offer by_status
offer_by a q u k s = go (status_at s u) (changes u k q (weight_at s u) (previous_at s u))
  where
    go : (x : ℕ) (b : Bool) → by_status x b (waits u k a s) s ≡ cond (takes_up x b) (waits u k a s) s
    go zero b = refl
    go (suc zero) b = refl
    go (suc (suc x)) b = refl

-- an edge that ends at a, by its other end
pub edge_by : (g : Graph) (w : ℕ → ℕ) (a q W e : ℕ) (s : State) → (end_a g e ≡ a) ⊎ (end_b g e ≡ a)
    → relax_edge g w a q W e s ≡ offer a q (cond (eqb (end_a g e) a) (end_b g e) (end_a g e)) (W + w e) s
edge_by g w a q W e s p = elim (ℕ_discrete (end_a g e) a) [
  | yes h ↦ edge-from-a g w a q W e s h ∙ ap (λ b. offer a q (cond b (end_b g e) (end_a g e)) (W + w e) s) (sym (eq-eqb (end_a g e) a h))
  | no h ↦ edge-from-b g w a q W e s h (⊎_elim (λ z. absurd (h z)) (λ z. z) p) ∙ ap (λ b. offer a q (cond b (end_b g e) (end_a g e)) (W + w e) s) (sym (ne_eqb (end_a g e) a h))
]

-- the other end is a vertex
pub other_in : (x y a n : ℕ) → x < n → y < n → cond (eqb x a) y x < n
other_in x y a n p q = go (eqb x a)
  where
    go : (b : Bool) → cond b y x < n
    go true = q
    go false = p

-- the same number of vertices by another name
pub ready_as : {n n' : ℕ} {s : State} {node leaf : List ℕ} → n ≡ n' → Ready n s node leaf → Ready n' s node leaf
ready_as {s = s} {node = node} {leaf = leaf} e r = subst (λ k. Ready k s node leaf) e r

pub listed_as : {n n' : ℕ} {a b w numbers ends : List ℕ} → n ≡ n' → Listed n a b w numbers ends → Listed n' a b w numbers ends
listed_as {a = a} {b = b} {w = w} {numbers = numbers} {ends = ends} e l = subst (λ k. Listed k a b w numbers ends) e l
