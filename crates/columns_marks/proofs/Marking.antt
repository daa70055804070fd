-- Laws of setting the bytes that a list names. Assumes nothing.
use mathlib.Core.Path.{◌≡◌, refl, sym, ap, ◌∙◌, subst}
use mathlib.Core.Bool.{Bool, true, false, ◌||◌, cond}
use mathlib.Core.List.{List, [], ◌∷◌, ◌++◌}
use Prim.Native.Nat.{ℕ, zero, suc, ◌+◌, ◌≤◌, ◌<◌}
use native.Mathlib.Decide.{ℕ_discrete}
use native.Mathlib.Numerals.{add-one}
use native.Mathlib.Omega.{arith}
use lib.ListN.{length, get_or, set, take, drop, replicate, length-replicate, length-set, get_or-replicate, get_or-append, take-append-drop}
use lib.Seq.{sets, length-sets, take-suc, get_or-set_same, get_or-set_other, drop-set-lt, drop_at}
use lib.Dec.{eqb}
use borrow.Author.Tests.{eq-eqb, ne_eqb}
use Rattle.columns.specs.Lists.{each, over}
use Rattle.columns.proofs.Columns.{sets_over}
use Rattle.columns.proofs.Counting.{length-each}
use Rattle.columns_neighbors.proofs.Placing.{each-places}
use Rattle.columns_marks.specs.Marks.{names, marks}

or_false : (b : Bool) → (b || false) ≡ b
or_false true = refl
or_false false = refl

or_last : (b : Bool) → (b || true) ≡ true
or_last true = refl
or_last false = refl

names-append : (xs ys : List ℕ) (k : ℕ) → names (xs ++ ys) k ≡ (names xs k || names ys k)
unfolding names
names-append [] ys k = refl
names-append (x ∷ xs) ys k = go (eqb x k) (names-append xs ys k)
  where
    go : (b : Bool) → names (xs ++ ys) k ≡ (names xs k || names ys k) → (b || names (xs ++ ys) k) ≡ ((b || names xs k) || names ys k)
    go true e = refl
    go false e = e

names_last : (xs : List ℕ) (x : ℕ) → names (xs ++ (x ∷ [])) x ≡ true
unfolding names
names_last xs x = names-append xs (x ∷ []) x ∙ simp (eq-eqb x x refl) (or_last (names xs x))

names_other : (xs : List ℕ) (x k : ℕ) → (x ≡ k → ⊥) → names (xs ++ (x ∷ [])) k ≡ names xs k
unfolding names
names_other xs x k f = names-append xs (x ∷ []) k ∙ simp (ne_eqb x k f) (or_false (names xs k))

-- the column after a run through a list, with n places and what stood there before
pub record Marked (n : ℕ) (list before column : List ℕ) : Type 0 where
  pub at : (k : ℕ) → k < n → get_or column k 0 ≡ cond (names list k) 1 0
  pub rest : drop n column ≡ drop n before
  pub len : length column ≡ length before

module _ (n : ℕ) (before : List ℕ) (long : n ≤ length before) where
  pub marked_none : {column : List ℕ} → column ≡ sets before 0 (replicate n 0) → Marked n [] before column
  unfolding names
  marked_none {column} f =
      let e : column ≡ replicate n 0 ++ drop n before = f ∙ sets_over before (replicate n 0) (omega (arith, length-replicate n zero)) ∙ ap (λ (k : ℕ). replicate n 0 ++ drop k before) (length-replicate n 0) in
      record {
        at = λ k l. ap (λ (r : List ℕ). get_or r k 0) e ∙ get_or-append (replicate n 0) (drop n before) 0 k (omega (arith, length-replicate n zero)) ∙ get_or-replicate n k 0 0 l;
        rest = ap (λ (r : List ℕ). drop n r) e ∙ drop_at (replicate n 0) (drop n before) n (length-replicate n 0);
        len = ap length f ∙ length-sets before 0 (replicate n 0);
      }

  -- one number more
  marked_more : (xs : List ℕ) (x : ℕ) {column column' : List ℕ} → x < n → Marked n xs before column → column' ≡ set column x 1 → Marked n (xs ++ (x ∷ [])) before column'
  marked_more xs x {column} {column'} h m e = record {
    at = λ k l. ap (λ (r : List ℕ). get_or r k 0) e ∙ go k l (ℕ_discrete x k);
    rest = ap (λ (r : List ℕ). drop n r) e ∙ drop-set-lt n column x 1 h ∙ m.rest;
    len = ap length e ∙ length-set column x 1 ∙ m.len;
  }
    where
      go : (k : ℕ) → k < n → Dec (x ≡ k) → get_or (set column x 1) k 0 ≡ cond (names (xs ++ (x ∷ [])) k) 1 0
      go k l (yes q) = subst (λ (j : ℕ). get_or (set column x 1) j 0 ≡ cond (names (xs ++ (x ∷ [])) j) 1 0) q
          (get_or-set_same column x 1 0 (omega (arith, m.len)) ∙ ap (λ (b : Bool). cond b 1 0) (sym (names_last xs x)))
      go k l (no q) = get_or-set_other column x k 1 0 (λ r. q (sym r)) ∙ m.at k l ∙ ap (λ (b : Bool). cond b 1 0) (sym (names_other xs x k q))

  pub marked_next : (list : List ℕ) (i : ℕ) {column column' : List ℕ} → i < length list → get_or list i 0 < n → Marked n (take i list) before column → column' ≡ set column (get_or list i 0) 1 → Marked n (take (i + 1) list) before column'
  marked_next list i {column} {column'} l h m e =
      subst (λ (xs : List ℕ). Marked n xs before column') (sym (take-suc list i 0 l) ∙ ap (λ (k : ℕ). take k list) (sym (add-one i))) (marked_more (take i list) (get_or list i 0) h m e)

  pub marked_all : (list : List ℕ) {column : List ℕ} → Marked n list before column → column ≡ over (marks n list) before
  unfolding marks
  marked_all list {column} m =
      let f : ℕ → ℕ = λ k. cond (names list k) 1 0 in
      sym (take-append-drop n column) ∙ (λ i. each-places f n column (omega (arith, m.len)) m.at i ++ m.rest i)
      ∙ ap (λ (k : ℕ). each n f ++ drop k before) (sym (length-each n f))

-- a run that starts where another one ended, with nothing named yet
pub marked_start : {n : ℕ} {before filled : List ℕ} → Marked n [] before filled → Marked n [] filled filled
marked_start m = record { at = m.at; rest = refl; len = refl }

pub marked_from : {n : ℕ} {list before filled column : List ℕ} → Marked n [] before filled → Marked n list filled column → Marked n list before column
marked_from f m = record { at = m.at; rest = m.rest ∙ f.rest; len = m.len ∙ f.len }
