-- Reordering keeps syndromes; with question 7 and walks, the claim on what it keeps. Assumes nothing.
use mathlib.Core.Path.{◌≡◌, refl, sym, ap, ◌∙◌, subst}
use mathlib.Core.Logic.{⊎_elim, ◌↔◌}
use mathlib.Core.Bool.{Bool, true, false, ◌&&◌, cond}
use mathlib.Core.List.{List, [], ◌∷◌, Memᴰ}
use Prim.Native.Nat.{ℕ, zero, suc, ◌+◌, ◌%◌, ◌<◌}
use native.Mathlib.Decide.{ℕ_discrete}
use native.Mathlib.Omega.{arith}
use lib.ListN.{length, get_or, length-append}
use lib.Dec.{eqb}
use Rattle.columns.specs.Lists.{joined, when}
use Rattle.columns.proofs.Tests.{below_at}
use Rattle.columns_neighbors.specs.Lists.{chosen}
use Rattle.columns_marks.proofs.Listing.{chosen_same}
use Rattle.columns_room.specs.Graph.{CodeGraph}
use Rattle.sampling_calls.specs.Syndrome.{hit, ends_in, is_defect_of, syndrome_of}
use Rattle.reorder_orders.specs.Order.{new_number, renamed}
use Rattle.reorder_orders.proofs.Permutation.{total, along, order_below, new-below, new_of_old, along-order}
use Rattle.reorder_calls.specs.Columns.{ReorderColumns}
use Rattle.reorder_claims.specs.Keeps.{reorder_code, ReorderingKeeps}
use Rattle.reorder_claims.proofs.Kept.{promise, GraphRenamed, graph-renamed, same_number, question-7-kept, walk_kept, walk_from, crossing-kept}

-- the numbers that pass a test, as a set
chosen_in : (test : ℕ → Bool) (n x : ℕ) → x < n → test x ≡ true → Memᴰ x (chosen n test)
unfolding chosen joined
chosen_in test zero x h p = absurd (omega arith)
chosen_in test (suc n) x h p = elim (ℕ_discrete x n) [
  | yes q ↦ mathlib.Core.List.Memᴰ.append_right (chosen n test) (subst (λ (b : Bool). Memᴰ x (when b n)) (sym (ap test (sym q) ∙ p)) (mathlib.Core.List.Memᴰ.head q))
  | no q ↦ mathlib.Core.List.Memᴰ.append_left (when (test n) n) (chosen_in test n x (omega arith) p)
]

chosen_out : (test : ℕ → Bool) (n x : ℕ) → Memᴰ x (chosen n test) → (x < n) × (test x ≡ true)
unfolding chosen joined
chosen_out test zero x m = absurd (mathlib.Core.List.Memᴰ.not-nil m)
chosen_out test (suc n) x m = ⊎_elim
    (λ (w : Memᴰ x (chosen n test)). let r = chosen_out test n x w in (omega (arith, r.0), r.1))
    (λ (w : Memᴰ x (when (test n) n)). one (test n) refl w)
    (mathlib.Core.List.Memᴰ.append_cases (chosen n test) m)
  where
    one : (b : Bool) → test n ≡ b → Memᴰ x (when b n) → (x < suc n) × (test x ≡ true)
    one true p w = let q = mathlib.Core.List.Memᴰ.eq_of_singleton w in (omega arith, ap test q ∙ p)
    one false p w = absurd (mathlib.Core.List.Memᴰ.not-nil w)

-- how many they are
chosen-count : (test : ℕ → Bool) (n : ℕ) → length (chosen n test) ≡ total n (λ k. cond (test k) 1 0)
unfolding chosen joined total
chosen-count test zero = refl
chosen-count test (suc n) = omega (arith, length-append (chosen n test) (when (test n) n), chosen-count test n, one (test n))
  where
    one : (b : Bool) → length (when b n) ≡ cond b 1 0
    one true = refl
    one false = refl

-- a sum over the places of a list is the sum over the list
first_apart : (n : ℕ) (f : ℕ → ℕ) → total (suc n) f ≡ f 0 + total n (λ k. f (suc k))
unfolding total
first_apart zero f = omega arith
first_apart (suc n) f = omega (arith, first_apart n f)

total_along : (f : ℕ → ℕ) (xs : List ℕ) → total (length xs) (λ n. f (get_or xs n 0)) ≡ along f xs
unfolding total along
total_along f [] = refl
total_along f (x ∷ xs) = first_apart (length xs) (λ n. f (get_or (x ∷ xs) n 0)) ∙ ap (λ (k : ℕ). f x + k) (total_along f xs)

module _ (v e : ℕ) (order : List ℕ) (c₀ c : ReorderColumns) (r : GraphRenamed v e order c₀ c) where
  in_order : (u : ℕ) → u < v → u < length order
  in_order u h = omega (arith, r.many)

  new_in : (u : ℕ) → u < v → new_number order u < v
  new_in u h = omega (arith, new-below order r.order_is u (in_order u h), r.many)

  abbrev oldCode : CodeGraph
  oldCode = reorder_code v e c₀

  abbrev newCode : CodeGraph
  newCode = reorder_code v e c

  hit-new : (u x : ℕ) {x' : ℕ} → u < v → x < v → x' ≡ new_number order x → hit (new_number order u) x' ≡ hit u x
  hit-new u x h g p = ap (λ (t : Bool). cond t 1 0) (same_number order r.order_is r.many u x h g p)

  ends-kept : (ks : List ℕ) (u : ℕ) → u < v → ((i : ℕ) → i < length ks → get_or ks i 0 < e)
      → ends_in c.ends_a c.ends_b ks (new_number order u) ≡ ends_in c₀.ends_a c₀.ends_b ks u
  unfolding ends_in
  ends-kept [] u h named = refl
  ends-kept (i ∷ ks) u h named =
      let b : i < e = named 0 (omega arith) in
      omega (arith, hit-new u (get_or c₀.ends_a i 0) h (r.in_a i b) (r.ends_a_renamed i b), hit-new u (get_or c₀.ends_b i 0) h (r.in_b i b) (r.ends_b_renamed i b), ends-kept ks u h (λ n l. named (suc n) (omega arith)))

  defect-kept : (ks : List ℕ) (u : ℕ) → u < v → ((i : ℕ) → i < length ks → get_or ks i 0 < e) → is_defect_of newCode ks (new_number order u) ≡ is_defect_of oldCode ks u
  unfolding is_defect_of
  defect-kept ks u h named =
      ap (λ (n : ℕ). eqb n 0 && eqb (ends_in c.ends_a c.ends_b ks (new_number order u) % 2) 1) (r.boundary_kept u h)
      ∙ ap (λ (n : ℕ). eqb (get_or c₀.boundary u 0) 0 && eqb (n % 2) 1) (ends-kept ks u h named)

  kept : (ks : List ℕ) → ((i : ℕ) → i < length ks → get_or ks i 0 < e) → (x : ℕ)
      → Memᴰ x (syndrome_of newCode ks) ↔ Memᴰ x (renamed order (syndrome_of oldCode ks))
  unfolding syndrome_of
  kept ks named x = (
    (λ m.
        let is = chosen_out (is_defect_of newCode ks) v x m in
        let u = get_or order x 0 in
        let h : u < v = omega (arith, order_below order r.order_is x (in_order x is.0), r.many) in
        let q : new_number order u ≡ x = new_of_old order r.order_is x (in_order x is.0) in
        mathlib.Core.List.Memᴰ.cast (sym q) (mathlib.Core.List.Memᴰ.map (new_number order) (chosen_in (is_defect_of oldCode ks) v u h (sym (defect-kept ks u h named) ∙ ap (is_defect_of newCode ks) q ∙ is.1)))),
    (λ m.
        let w = mathlib.Core.List.Memᴰ.of_map (new_number order) (chosen v (is_defect_of oldCode ks)) m in
        let is = chosen_out (is_defect_of oldCode ks) v w.0 w.1 in
        mathlib.Core.List.Memᴰ.cast (sym w.2) (chosen_in (is_defect_of newCode ks) v (new_number order w.0) (new_in w.0 is.0) (defect-kept ks w.0 is.0 named ∙ is.1))),
  )

  -- the new vertices that are defects are as many as the old ones: each is in the order once
  count_kept : (ks : List ℕ) → ((i : ℕ) → i < length ks → get_or ks i 0 < e) → length (syndrome_of newCode ks) ≡ length (syndrome_of oldCode ks)
  unfolding syndrome_of
  count_kept ks named =
      let old : ℕ → Bool = is_defect_of oldCode ks in
      let f : ℕ → ℕ = λ u. cond (old u) 1 0 in
      ap length (chosen_same v (is_defect_of newCode ks) (λ n. old (get_or order n 0)) (λ n h.
      ap (is_defect_of newCode ks) (sym (new_of_old order r.order_is n (in_order n h)))
      ∙ defect-kept ks (get_or order n 0) (omega (arith, order_below order r.order_is n (in_order n h), r.many)) named))
      ∙ chosen-count (λ n. old (get_or order n 0)) v ∙ ap (λ (m : ℕ). total m (λ n. f (get_or order n 0))) (sym r.many) ∙ total_along f order
      ∙ along-order order r.order_is f ∙ ap (λ (m : ℕ). total m f) r.many ∙ sym (chosen-count old v)

-- ---- the claim

pub reordering_keeps : ReorderingKeeps
reordering_keeps = record {
  question_7 = λ v e order c₀ c r. question-7-kept v e order c₀ c (promise r);
  walks = λ v e order c₀ c r x y s h g. (walk_kept v e order c₀ c (promise r), walk_from v e order c₀ c (promise r) x y h g);
  crossing_weight = λ v e order c₀ c r. crossing-kept v e order c₀ c (promise r);
  syndromes = λ v e order c₀ c r edges below x. kept v e order c₀ c (graph-renamed v e order c₀ c (promise r)) edges (below_at e edges below) x;
  as_many_defects = λ v e order c₀ c r edges below. count_kept v e order c₀ c (graph-renamed v e order c₀ c (promise r)) edges (below_at e edges below);
}
