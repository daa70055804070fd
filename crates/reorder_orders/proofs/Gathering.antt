-- Laws of stores through a list of places, of marking what was seen, and of storing new numbers. Assumes nothing.
use mathlib.Core.Path.{◌≡◌, refl, sym, ap, ◌∙◌, subst}
use mathlib.Core.Bool.{Bool, true, false, not, ◌&&◌, cond}
use mathlib.Core.List.{List, [], ◌∷◌, ◌++◌, map}
use Prim.Native.Nat.{ℕ, zero, suc, ◌+◌, ◌≤◌, ◌<◌}
use native.Mathlib.Decide.{ℕ_discrete}
use native.Mathlib.Nat.{suc-add}
use native.Mathlib.Numerals.{add-one}
use native.Mathlib.Omega.{arith}
use lib.ListN.{length, get_or, set, take, drop, length-set, length-take, length-map, take-append-drop}
use lib.Seq.{sets, take-length, get_or-take, get_or-set_same, get_or-set_other, drop-set-lt}
use lib.Dec.{eqb}
use borrow.Author.Tests.{eq-eqb, ne_eqb}
use Rattle.columns.specs.Lists.{each, over}
use Rattle.columns.specs.Questions.{every}
use Rattle.columns.proofs.Columns.{sets_over, over-in}
use Rattle.columns.proofs.Counting.{length-each, getD-each}
use Rattle.columns.proofs.Tests.{every-not}
use Rattle.columns_neighbors.proofs.Placing.{each-places}
use Rattle.columns.proofs.Refusals.{store-more}
use Rattle.reorder_orders.specs.Order.{none_twice, new_number, old_to_new, renamed, moved}
use Rattle.reorder_orders.specs.Steps.{IsOrder}
use Rattle.reorder_orders.proofs.Permutation.{order_below, order-once, new-below, old_of_new}

-- ---- a loop that stores f of each listed place

module _ {A : Type 0} (f : ℕ → A) (s : List ℕ) (l₀ : List A) where
  pub gather-more : (i : ℕ) {l : List A} {x : A} → i < length s → l ≡ sets l₀ 0 (map f (take i s)) → x ≡ f (get_or s i 0) → set l i x ≡ sets l₀ 0 (map f (take (i + 1) s))
  gather-more i {l} {x} h e q = ap (λ (k : List A). set k i x) e ∙ ap (set (sets l₀ 0 (map f (take i s))) i) q ∙ store-more s f 0 l₀ i h

  pub gather-end : (i : ℕ) {l : List A} → i ≡ length s → length s ≤ length l₀ → l ≡ sets l₀ 0 (map f (take i s)) → l ≡ over (map f s) l₀
  gather-end i {l} h room e =
      e ∙ ap (λ (k : ℕ). sets l₀ 0 (map f (take k s))) h ∙ ap (λ (t : List ℕ). sets l₀ 0 (map f t)) (take-length s)
      ∙ sets_over l₀ (map f s) (omega (arith, length-map s f))

-- a loop that writes f of each element where it stands: the element at its turn, and one turn more
module _ (f : ℕ → ℕ) where
  stands : (s : List ℕ) (i : ℕ) → get_or (map f (take i s) ++ drop i s) i 0 ≡ get_or s i 0
  stands [] zero = refl
  stands [] (suc i) = refl
  stands (x ∷ xs) zero = refl
  stands (x ∷ xs) (suc i) = stands xs i

  turned : (s : List ℕ) (i : ℕ) → i < length s → set (map f (take i s) ++ drop i s) i (f (get_or s i 0)) ≡ map f (take (i + 1) s) ++ drop (i + 1) s
  turned [] i h = absurd (omega arith)
  turned (x ∷ xs) zero h = refl
  turned (x ∷ xs) (suc i) h = rw suc-add (ap (λ (t : List ℕ). f x ∷ t) (turned xs i (omega arith)))

  pub rename_more : (s : List ℕ) (i : ℕ) {l : List ℕ} → i < length s → l ≡ map f (take i s) ++ drop i s → set l i (f (get_or l i 0)) ≡ map f (take (i + 1) s) ++ drop (i + 1) s
  rename_more s i h e = rw (e, stands s i) (turned s i h)

-- equal values at the listed places
pub map-listed : {A : Type 0} (f g : ℕ → A) (l : List ℕ) → ((i : ℕ) → i < length l → f (get_or l i 0) ≡ g (get_or l i 0)) → map f l ≡ map g l
map-listed f g [] h = refl
map-listed f g (x ∷ xs) h = λ i. h 0 (omega arith) i ∷ map-listed f g xs (λ k b. h (suc k) (omega arith)) i

-- ---- question 14: what was seen among the first i

module _ (order : List ℕ) where
  -- none of the first i is u
  abbrev pub unseen : ℕ → ℕ → Bool
  unseen i u = every i (λ j. not (eqb (get_or order j 0) u))

  pub record Seen (i : ℕ) (seen : List ℕ) : Type 0 where
    pub mark : (u : ℕ) → u < length seen → get_or seen u 0 ≡ cond (unseen i u) 0 1

  mark-off : (b : Bool) → cond {A = ℕ} b 0 1 ≡ 1 → b ≡ false
  mark-off true e = absurd (omega arith)
  mark-off false e = refl

  mark_on : (b : Bool) → (cond {A = ℕ} b 0 1 ≡ 1 → ⊥) → b ≡ true
  mark_on true f = refl
  mark_on false f = absurd (f refl)

  pub seen_none : (seen : List ℕ) → ((u : ℕ) → get_or seen u 0 ≡ 0) → Seen 0 seen
  unfolding every
  seen_none seen z = record { mark = λ u h. z u }

  pub seen_twice : (i : ℕ) (seen : List ℕ) → i < length order → Seen i seen → get_or order i 0 < length seen → get_or seen (get_or order i 0) 0 ≡ 1 → false ≡ none_twice order
  unfolding none_twice
  seen_twice i seen h s l q =
      sym (every-not (λ k. unseen k (get_or order k 0)) (length order) i h (mark-off _ (sym (s.mark (get_or order i 0) l) ∙ q)))

  pub seen-once : (i : ℕ) (seen : List ℕ) → Seen i seen → get_or order i 0 < length seen → (get_or seen (get_or order i 0) 0 ≡ 1 → ⊥) → unseen i (get_or order i 0) ≡ true
  seen-once i seen s l f = mark_on _ (λ q. f (s.mark (get_or order i 0) l ∙ q))

  and_false : (b : Bool) → (b && false) ≡ false
  and_false true = refl
  and_false false = refl

  and_true : (b : Bool) → (b && true) ≡ b
  and_true true = refl
  and_true false = refl

  unseen-more : (i u : ℕ) → unseen (i + 1) u ≡ (unseen i u && not (eqb (get_or order i 0) u))
  unfolding every
  unseen-more i u = ap (λ (k : ℕ). unseen k u) (add-one i)

  pub seen_more : (i : ℕ) (seen : List ℕ) → Seen i seen → get_or order i 0 < length seen → Seen (i + 1) (set seen (get_or order i 0) 1)
  seen_more i seen s l = let at = get_or order i 0 in record {
    mark = λ u h. elim (ℕ_discrete u at) [
      | yes q ↦
          ap (λ (k : ℕ). get_or (set seen at 1) k 0) q ∙ get_or-set_same seen at 1 0 l
          ∙ ap (λ (b : Bool). cond b 0 1) (sym (unseen-more i u ∙ ap (λ (b : Bool). unseen i u && not b) (eq-eqb at u (sym q)) ∙ and_false (unseen i u)))
      | no q ↦
          get_or-set_other seen at u 1 0 q ∙ s.mark u (omega (arith, length-set seen at 1))
          ∙ ap (λ (b : Bool). cond b 0 1) (sym (unseen-more i u ∙ ap (λ (b : Bool). unseen i u && not b) (ne_eqb at u (λ r. q (sym r))) ∙ and_true (unseen i u)))
    ];
  }

-- ---- new numbers

module _ (order : List ℕ) (o : IsOrder order) where
  pub record Placed (i : ℕ) (column₀ column : List ℕ) : Type 0 where
    pub at : (j : ℕ) → j < i → get_or column (get_or order j 0) 0 ≡ j
    pub rest : drop (length order) column ≡ drop (length order) column₀
    pub len : length column ≡ length column₀

  pub placed-none : (column : List ℕ) → Placed 0 column column
  placed-none column = record { at = λ j h. absurd (omega arith); rest = refl; len = refl }

  pub placed-more : (i : ℕ) (column₀ column : List ℕ) → i < length order → length order ≤ length column₀ → Placed i column₀ column → Placed (i + 1) column₀ (set column (get_or order i 0) i)
  placed-more i column₀ column h room p = let k = get_or order i 0 in record {
    at = λ j l. elim (ℕ_discrete j i) [
      | yes q ↦ ap (λ (x : ℕ). get_or (set column k i) (get_or order x 0) 0) q ∙ get_or-set_same column k i 0 (omega (arith, p.len, order_below order o i h)) ∙ sym q
      | no q ↦ get_or-set_other column k (get_or order j 0) i 0 (order-once order o j i (omega arith) h) ∙ p.at j (omega arith)
    ];
    rest = drop-set-lt (length order) column k i (order_below order o i h) ∙ p.rest;
    len = length-set column k i ∙ p.len;
  }

  pub placed_end : (i : ℕ) (column₀ column : List ℕ) → i ≡ length order → length order ≤ length column₀ → Placed i column₀ column → column ≡ over (old_to_new order) column₀
  unfolding old_to_new
  placed_end i column₀ column e room p =
      let all = each-places (new_number order) (length order) column (omega (arith, p.len)) (λ u h.
      ap (λ (x : ℕ). get_or column x 0) (sym (old_of_new order o u h)) ∙ p.at (new_number order u) (omega (arith, new-below order o u h))) in
      sym (take-append-drop (length order) column) ∙ ap (λ (t : List ℕ). t ++ drop (length order) column) all ∙ ap (λ (t : List ℕ). each (length order) (new_number order) ++ t) p.rest
      ∙ ap (λ (k : ℕ). each (length order) (new_number order) ++ drop k column₀) (sym (length-each (length order) (new_number order)))

  -- what the stored new numbers say of a listed vertex
  pub renamed_by : (column₀ : List ℕ) {column : List ℕ} (l : List ℕ) → column ≡ over (old_to_new order) column₀ → ((i : ℕ) → i < length l → get_or l i 0 < length order)
      → moved l 0 column ≡ renamed order l
  unfolding old_to_new
  renamed_by column₀ {column} l e h = map-listed (λ u. get_or column u 0) (new_number order) l (λ i b.
      ap (λ (t : List ℕ). get_or t (get_or l i 0) 0) e
      ∙ over-in (each (length order) (new_number order)) column₀ 0 (get_or l i 0) (omega (arith, h i b, length-each (length order) (new_number order)))
      ∙ getD-each (length order) (new_number order) 0 (get_or l i 0) (h i b))

-- the first n of a list
pub first_listed : (l : List ℕ) (n limit : ℕ) → ((i : ℕ) → i < n → get_or l i 0 < limit) → (i : ℕ) → i < length (take n l) → get_or (take n l) i 0 < limit
first_listed l n limit h i b =
    let k : i < n = omega (arith, length-take n l) in
    subst (λ (x : ℕ). x < limit) (sym (get_or-take n l i 0 k)) (h i k)

-- the column of new numbers has one for each vertex
pub length-oldToNew : (order : List ℕ) → length (old_to_new order) ≡ length order
unfolding old_to_new
length-oldToNew order = length-each (length order) (new_number order)
