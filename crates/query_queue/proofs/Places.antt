-- The places of a tree of least keys: what a store changes, that one stale place is enough to say where a tree is not sound, and that place 1 is the least.
-- Assumes nothing.
use mathlib.Core.Path.{◌≡◌, sym, ap, ◌∙◌, subst}
use mathlib.Core.List.{List}
use mathlib.Core.Logic.{◌≢◌}
use Prim.Native.Nat.{ℕ, zero, suc, ◌+◌, ◌*◌, ◌-◌, ◌/◌, ◌<◌, ◌≤◌, min}
use native.Mathlib.Nat.{le_refl, le_trans, le_of_eq, min-le_left, min-le_right, min-eq_left, min-eq_right}
use native.Mathlib.Omega.{arith}
use borrow.Author.Tests.{lt-ltb, le-ltb}
use lib.ListN.{length, get_or, set}
use lib.Seq.{get_or-set_same, get_or-set_other}
use Rattle.query_queue.specs.Tree.{place_of, Inner, Tree, TreeBut, Least, Same}
use Rattle.query_queue.proofs.Cases.{by_lt, by_eq}

pub inner_is : (node leaf : List ℕ) (n j : ℕ) → j < n → place_of node leaf n j ≡ get_or node j 0
unfolding place_of
inner_is node leaf n j h = simp (lt-ltb j n h)

pub leaf_is : (node leaf : List ℕ) (n j : ℕ) → n ≤ j → place_of node leaf n j ≡ get_or leaf (j - n) 0
unfolding place_of
leaf_is node leaf n j h = simp (le-ltb j n h)

-- a store to an inner place changes that place alone
pub node_same : (node leaf : List ℕ) (n i x : ℕ) → i < n → i < length node → place_of (set node i x) leaf n i ≡ x
node_same node leaf n i x l m = inner_is (set node i x) leaf n i l ∙ get_or-set_same node i x 0 m

pub node_other : (node leaf : List ℕ) (n i x j : ℕ) → j ≢ i → place_of (set node i x) leaf n j ≡ place_of node leaf n j
node_other node leaf n i x j d =
    by_lt j n
    (λ l. inner_is (set node i x) leaf n j l ∙ get_or-set_other node i j x 0 d ∙ sym (inner_is node leaf n j l))
    (λ g. leaf_is (set node i x) leaf n j g ∙ sym (leaf_is node leaf n j g))

-- and so does a store to a leaf
pub leaf_other : (node leaf : List ℕ) (n v x j : ℕ) → j ≢ n + v → place_of node (set leaf v x) n j ≡ place_of node leaf n j
leaf_other node leaf n v x j d =
    by_lt j n
    (λ l. inner_is node (set leaf v x) n j l ∙ sym (inner_is node leaf n j l))
    (λ g. leaf_is node (set leaf v x) n j g ∙ get_or-set_other leaf v (j - n) x 0 (λ e. d (omega arith)) ∙ sym (leaf_is node leaf n j g))

-- after a store to the leaf of v only its parent can be stale
pub leaf_put : (node leaf : List ℕ) (n v x : ℕ) → Tree node leaf n → TreeBut node (set leaf v x) n ((n + v) / 2)
leaf_put node leaf n v x s k p l d =
    leaf_other node leaf n v x k (λ e. omega arith)
    ∙ s k p l
    ∙ (λ i. min (sym (leaf_other node leaf n v x (2 * k) (λ e. d (omega arith))) i) (sym (leaf_other node leaf n v x (2 * k + 1) (λ e. d (omega arith))) i))

-- after place i is made the lesser of its children, only its parent can be stale
pub node_put : (node leaf : List ℕ) (n i x : ℕ) → 0 < i → i < n → i < length node → x ≡ min (place_of node leaf n (2 * i)) (place_of node leaf n (2 * i + 1)) → TreeBut node leaf n i → TreeBut (set node i x) leaf n (i / 2)
node_put node leaf n i x pi li mi e s k p l d =
    by_eq k i
    (λ same. subst (λ (z : ℕ). Inner (set node i x) leaf n z) (sym same)
    (node_same node leaf n i x li mi ∙ e
    ∙ (λ j. min (sym (node_other node leaf n i x (2 * i) (λ q. omega arith)) j) (sym (node_other node leaf n i x (2 * i + 1) (λ q. omega arith)) j))))
    (λ other. node_other node leaf n i x k other ∙ s k p l other
    ∙ (λ j. min (sym (node_other node leaf n i x (2 * k) (λ q. d (omega arith))) j) (sym (node_other node leaf n i x (2 * k + 1) (λ q. d (omega arith))) j)))

-- a tree whose stale place turns out to hold the lesser of its children is sound
pub none_stale : (node leaf : List ℕ) (n i : ℕ) → i < n → get_or node i 0 ≡ min (place_of node leaf n (2 * i)) (place_of node leaf n (2 * i + 1)) → TreeBut node leaf n i → Tree node leaf n
none_stale node leaf n i l e s k p h =
    by_eq k i
    (λ same. subst (λ (z : ℕ). Inner node leaf n z) (sym same) (inner_is node leaf n i l ∙ e))
    (λ other. s k p h other)

-- place 1 is at most what any place holds. `f` bounds j, so that the recursion ends
root_under : (node leaf : List ℕ) (n : ℕ) → Tree node leaf n → (f j : ℕ) → j ≤ f → 0 < j → j < n + n → place_of node leaf n 1 ≤ place_of node leaf n j
root_under node leaf n s zero j b p l = absurd (omega arith)
root_under node leaf n s (suc f) j b p l =
    by_eq j 1
    (λ one. le_of_eq (ap (place_of node leaf n) (sym one)))
    (λ more.
    let up : place_of node leaf n 1 ≤ place_of node leaf n (j / 2) = root_under node leaf n s f (j / 2) (omega arith) (omega arith) (omega arith) in
    let here : Inner node leaf n (j / 2) = s (j / 2) (omega arith) (omega arith) in
    by_eq j (2 * (j / 2))
    (λ even. le_trans up (le_trans (le_of_eq here) (le_trans (min-le_left _ _) (le_of_eq (ap (place_of node leaf n) (sym even))))))
    (λ odd. let e : j ≡ 2 * (j / 2) + 1 = omega arith in le_trans up (le_trans (le_of_eq here) (le_trans (min-le_right _ _) (le_of_eq (ap (place_of node leaf n) (sym e)))))))

-- what a place holds is the key of some leaf. `f` bounds the way down
leaf_under : (node leaf : List ℕ) (n : ℕ) → Tree node leaf n → (f i : ℕ) → n + n ≤ i + f → 0 < i → i < n + n → (v : ℕ) × ((v < n) × (get_or leaf v 0 ≡ place_of node leaf n i))
leaf_under node leaf n s zero i b p l = absurd (omega arith)
leaf_under node leaf n s (suc f) i b p l =
    by_lt i n
    (λ inner. by_lt (place_of node leaf n (2 * i)) (place_of node leaf n (2 * i + 1))
    (λ left. let w : (v : ℕ) × ((v < n) × (get_or leaf v 0 ≡ place_of node leaf n (2 * i))) = leaf_under node leaf n s f (2 * i) (omega arith) (omega arith) (omega arith) in
    (w.0, (w.1.0, w.1.1 ∙ sym (s i p inner ∙ min-eq_left (omega arith)))))
    (λ right. let w : (v : ℕ) × ((v < n) × (get_or leaf v 0 ≡ place_of node leaf n (2 * i + 1))) = leaf_under node leaf n s f (2 * i + 1) (omega arith) (omega arith) (omega arith) in
    (w.0, (w.1.0, w.1.1 ∙ sym (s i p inner ∙ min-eq_right right)))))
    (λ out. (i - n, (omega arith, sym (leaf_is node leaf n i out))))

pub root_least : (node leaf : List ℕ) (n : ℕ) → 0 < n → Tree node leaf n → Least leaf n (place_of node leaf n 1)
root_least node leaf n p s =
    let w : (v : ℕ) × ((v < n) × (get_or leaf v 0 ≡ place_of node leaf n 1)) = leaf_under node leaf n s (n + n) 1 (omega arith) (omega arith) (omega arith) in
    record {
      below = λ v l. subst (λ (z : ℕ). place_of node leaf n 1 ≤ z) (leaf_is node leaf n (n + v) (omega arith) ∙ ap (λ (z : ℕ). get_or leaf z 0) (omega arith)) (root_under node leaf n s (n + v) (n + v) (le_refl (n + v)) (omega arith) (omega arith));
      number = w.0;
      inside = w.1.0;
      there = w.1.1;
    }

-- one more entry that is x
pub same_more : (l : List ℕ) (i x : ℕ) → i < length l → Same l i x → Same (set l i x) (i + 1) x
same_more l i x inside s k below = by_eq k i (λ e. subst (λ (z : ℕ). get_or (set l i x) z 0 ≡ x) (sym e) (get_or-set_same l i x 0 inside)) (λ d. get_or-set_other l i k x 0 d ∙ s k (omega arith))

-- a tree whose places all hold x is sound
pub same_place : (node leaf : List ℕ) (n x j : ℕ) → Same node n x → Same leaf n x → j < n + n → place_of node leaf n j ≡ x
same_place node leaf n x j s t l = by_lt j n (λ b. inner_is node leaf n j b ∙ s j b) (λ g. leaf_is node leaf n j g ∙ t (j - n) (omega arith))

pub same_sound : (node leaf : List ℕ) (n x : ℕ) → Same node n x → Same leaf n x → Tree node leaf n
same_sound node leaf n x s t k p l =
    same_place node leaf n x k s t (omega arith)
    ∙ sym (min-eq_left (le_refl x))
    ∙ (λ i. min (sym (same_place node leaf n x (2 * k) s t (omega arith)) i) (sym (same_place node leaf n x (2 * k + 1) s t (omega arith)) i))
