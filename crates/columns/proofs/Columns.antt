-- Laws of runs of stores (`sets`) and of a column afterwards (`over`, `after`). Assumes nothing.
use mathlib.Core.Path.{◌≡◌, refl, sym, ap, ◌∙◌}
use Prim.Native.Nat.{ℕ, zero, suc, ◌+◌, ◌-◌, ◌≤◌, ◌<◌, min}
use native.Mathlib.Nat.{add-zero, add-suc, suc-add, zero-add}
use native.Mathlib.Decide.{dec_le}
use native.Mathlib.Numerals.{add-one}
use native.Mathlib.Omega.{arith}
use mathlib.Core.List.{List, [], ◌∷◌, ◌++◌}
use lib.ListN.{length, set, get_or, take, drop, replicate, length-append, length-replicate, length-set, length-drop, length-take, replicate-append-replicate, get_or-append}
use borrow.Author.Tests.{ne_eqb}
use lib.Seq.{sets, length-sets, sets-eq, set_out, take-suc, take_all, get_or-drop, get_or-append-add, take_at, drop_at}
use Rattle.columns.specs.Lists.{over, after}

rest : (n i : ℕ) → i ≤ n → n ≡ i + (n - i)
rest n i h = omega arith

module _ {A : Type 0} where
  -- what a place in range holds does not depend on what stands for the places past the end
  pub get_d_any : (l : List A) (i : ℕ) (d e : A) → i < length l → get_or l i d ≡ get_or l i e
  get_d_any [] i d e h = absurd (omega arith)
  get_d_any (x ∷ l) zero d e h = refl
  get_d_any (x ∷ l) (suc i) d e h = get_d_any l i d e (omega arith)

  -- two runs of stores, one after the other
  pub sets-append : (l : List A) (i : ℕ) (vs ws : List A) → sets l i (vs ++ ws) ≡ sets (sets l i vs) (i + length vs) ws
  sets-append l i [] ws = ap (λ (k : ℕ). sets l k ws) (sym (add-zero i))
  sets-append l i (v ∷ vs) ws =
      sets-append (set l i v) (suc i) vs ws ∙ ap (λ (k : ℕ). sets (sets (set l i v) (suc i) vs) k ws) (suc-add i (length vs) ∙ sym (add-suc i (length vs)))

  -- stores past the end change nothing
  pub sets-out : (l : List A) (i : ℕ) (vs : List A) → length l ≤ i → sets l i vs ≡ l
  sets-out l i [] h = refl
  sets-out l i (v ∷ vs) h = sets-out (set l i v) (suc i) vs (omega (arith, length-set l i v)) ∙ set_out l i v h

  -- whole columns: as many stores from the start as there is room for
  pub sets_over : (column vs : List A) → length vs ≤ length column → sets column 0 vs ≡ over vs column
  sets_over column vs h = sets-eq vs column 0 (omega arith) ∙ ap (λ (k : ℕ). vs ++ drop k column) (zero-add (length vs))

  pub length_over : (vs column : List A) → length vs ≤ length column → length (over vs column) ≡ length column
  length_over vs column h = omega (arith, length-append vs (drop (length vs) column), length-drop (length vs) column)

  pub take-over : (vs column : List A) (n : ℕ) → length vs ≡ n → take n (over vs column) ≡ vs
  take-over vs column n e = take_at vs (drop (length vs) column) n e

  pub drop-over : (vs column : List A) (n : ℕ) → length vs ≡ n → drop n (over vs column) ≡ drop n column
  drop-over vs column n e = drop_at vs (drop (length vs) column) n e ∙ ap (λ (k : ℕ). drop k column) e

  -- a place that was written, and one past the count
  pub over-in : (vs column : List A) (d : A) (i : ℕ) → i < length vs → get_or (over vs column) i d ≡ get_or vs i d
  over-in vs column d i h = get_or-append vs (drop (length vs) column) d i h

  pub over-past : (vs column : List A) (d : A) (i : ℕ) → length vs ≤ i → get_or (over vs column) i d ≡ get_or column i d
  over-past vs column d i h =
      ap (λ (k : ℕ). get_or (over vs column) k d) (rest i (length vs) h) ∙ get_or-append-add vs (drop (length vs) column) (i - length vs) d
      ∙ get_or-drop (length vs) column (i - length vs) d ∙ ap (λ (k : ℕ). get_or column k d) (sym (rest i (length vs) h))

  -- accepted, and refused
  pub after-accepted : (q : ℕ) (vs column : List A) → q ≡ 0 → after q vs column ≡ over vs column
  after-accepted q vs column e = ap (λ (k : ℕ). after k vs column) e

  pub after-refused : (q : ℕ) (vs column : List A) → (q ≡ 0 → ⊥) → after q vs column ≡ column
  after-refused q vs column f = simp (ne_eqb q 0 f)

  -- a column that is copied once every question is met
  pub copy-after : (n q : ℕ) (column from : List A) → q ≡ 0 → n ≤ length from → n ≤ length column → sets column 0 (take n from) ≡ after q (take n from) column
  copy-after n q column from e f g =
      sets_over column (take n from) (omega (arith, length-take n from)) ∙ sym (after-accepted q (take n from) column e)

  -- a loop that stores from the start: one more store
  pub sets_more : (l vs : List A) (i : ℕ) (v : A) → length vs ≡ i → sets l 0 (vs ++ (v ∷ [])) ≡ set (sets l 0 vs) i v
  sets_more l vs i v e = sets-append l 0 vs (v ∷ []) ∙ ap (λ (k : ℕ). set (sets l 0 vs) k v) (zero-add (length vs) ∙ e)

  -- a loop that fills: a turn, and the end, where m stores were made of n asked for
  pub fill_more : (l : List A) (i : ℕ) (v : A) → set (sets l 0 (replicate i v)) i v ≡ sets l 0 (replicate (i + 1) v)
  fill_more l i v =
      sym (sets_more l (replicate i v) i v (length-replicate i v)) ∙ ap (sets l 0) (replicate-append-replicate i 1 v)

  pub fill_end : (l : List A) (n i : ℕ) (v : A) → i ≤ n → min n (length l) ≤ i → sets l 0 (replicate i v) ≡ sets l 0 (replicate n v)
  fill_end l n i v k h = elim (dec_le n i) [
    | yes e ↦ ap (λ (j : ℕ). sets l 0 (replicate j v)) (native.Mathlib.Nat.le_antisymm k e)
    | no e ↦ sym (ap (sets l 0) (ap (λ (j : ℕ). replicate j v) (rest n i k) ∙ sym (replicate-append-replicate i (n - i) v))
        ∙ sets-append l 0 (replicate i v) (replicate (n - i) v)
        ∙ sets-out (sets l 0 (replicate i v)) (0 + length (replicate i v)) (replicate (n - i) v) (omega (arith, length-sets l 0 (replicate i v), length-replicate i v)))
  ]

  -- a loop that copies
  pub copy_more : (l s : List A) (i : ℕ) (d : A) → i < length s → set (sets l 0 (take i s)) i (get_or s i d) ≡ sets l 0 (take (i + 1) s)
  copy_more l s i d h =
      sym (sets_more l (take i s) i (get_or s i d) (omega (arith, length-take i s)))
      ∙ ap (sets l 0) (sym (take-suc s i d h) ∙ ap (λ (k : ℕ). take k s) (sym (add-one i)))

  pub copy-end : (l s : List A) (n i : ℕ) → i ≤ min n (length s) → min (min n (length s)) (length l) ≤ i → sets l 0 (take i s) ≡ sets l 0 (take n s)
  copy-end l s n i k h = elim (dec_le (min n (length s)) i) [
    | yes e ↦ ap (sets l 0) (first s n i k e)
    | no e ↦ sym (ap (sets l 0) (split s n i k) ∙ sets-append l 0 (take i s) (take (n - i) (drop i s))
        ∙ sets-out (sets l 0 (take i s)) (0 + length (take i s)) (take (n - i) (drop i s)) (omega (arith, length-sets l 0 (take i s), length-take i s)))
  ]
    where
      first : (s : List A) (n i : ℕ) → i ≤ min n (length s) → min n (length s) ≤ i → take i s ≡ take n s
      first s n i k h = elim (dec_le n i) [
        | yes l ↦ ap (λ (j : ℕ). take j s) (native.Mathlib.Nat.le_antisymm (omega arith) l)
        | no l ↦ take_all i s (omega arith) ∙ sym (take_all n s (omega arith))
      ]

      split : (s : List A) (n i : ℕ) → i ≤ min n (length s) → take n s ≡ take i s ++ take (n - i) (drop i s)
      split s n i k = ap (λ (j : ℕ). take j s) (rest n i (omega arith)) ∙ lib.Seq.take-add i (n - i) s
