-- Laws of each, joined and layered. Assumes nothing.
use mathlib.Core.Path.{◌≡◌, refl, sym, ap, ◌∙◌, subst}
use Prim.Native.Nat.{ℕ, zero, suc, ◌+◌, ◌-◌, ◌*◌, ◌≤◌, ◌<◌}
use native.Mathlib.Nat.{add-zero, add-suc, zero-mul, suc-mul, le_refl}
use native.Mathlib.Decide.{ℕ_discrete}
use native.Mathlib.Numerals.{add-one}
use native.Mathlib.Omega.{arith}
use mathlib.Core.List.{List, [], ◌∷◌, ◌++◌, map, append_assoc, append-nil, map-append}
use lib.ListN.{length, get_or, set, replicate, length-append, length-replicate, get_or-replicate, drop_of_length-le, get_or-append}
use lib.Seq.{get_or_at, ext_get_or, sets}
use Rattle.columns.specs.Lists.{each, joined, layered}
use Rattle.columns.proofs.Columns.{sets_more, sets_over}

pub times_next : (n k : ℕ) → (n + 1) * k ≡ n * k + k
times_next n k = ap (λ (m : ℕ). m * k) (add-one n) ∙ suc-mul n k

module _ {A : Type 0} where
  -- ---- one more

  pub each_more : (i : ℕ) (f : ℕ → A) → each (i + 1) f ≡ each i f ++ (f i ∷ [])
  unfolding each
  each_more i f = ap (λ (k : ℕ). each k f) (add-one i)

  pub joined-more : (i : ℕ) (f : ℕ → List A) → joined (i + 1) f ≡ joined i f ++ f i
  unfolding joined
  joined-more i f = ap (λ (k : ℕ). joined k f) (add-one i)

  -- ---- lengths

  pub length-each : (n : ℕ) (f : ℕ → A) → length (each n f) ≡ n
  unfolding each
  length-each zero f = refl
  length-each (suc n) f = length-append (each n f) (f n ∷ []) ∙ ap (λ (k : ℕ). k + 1) (length-each n f) ∙ add-one n

  -- n lists of k elements
  pub length-joined : (n k : ℕ) (f : ℕ → List A) → ((i : ℕ) → i < n → length (f i) ≡ k) → length (joined n f) ≡ n * k
  unfolding joined
  length-joined zero k f h = sym (zero-mul k)
  length-joined (suc n) k f h =
      omega (arith, length-append (joined n f) (f n), length-joined n k f (λ i l. h i (omega arith)), h n (le_refl _), suc-mul n k)

  -- room for what is written next: no count is needed
  pub joined-room : (n : ℕ) (f : ℕ → List A) (i : ℕ) → i < n → length (joined i f) + length (f i) ≤ length (joined n f)
  unfolding joined
  joined-room zero f i h = absurd (omega arith)
  joined-room (suc n) f i h = go (ℕ_discrete i n) (joined-room n f i)
    where
      go : Dec (i ≡ n) → (i < n → length (joined i f) + length (f i) ≤ length (joined n f)) → length (joined i f) + length (f i) ≤ length (joined n f ++ f n)
      go (yes e) before = subst (λ (m : ℕ). length (joined m f) + length (f m) ≤ length (joined n f ++ f n)) (sym e) (omega (arith, length-append (joined n f) (f n)))
      go (no e) before = omega (arith, length-append (joined n f) (f n), before (omega arith))

  -- ---- elements

  pub getD-each : (n : ℕ) (f : ℕ → A) (d : A) (i : ℕ) → i < n → get_or (each n f) i d ≡ f i
  unfolding each
  getD-each zero f d i h = absurd (omega arith)
  getD-each (suc n) f d i h = elim (ℕ_discrete i n) [
    | yes e ↦ subst (λ (k : ℕ). get_or (each n f ++ (f n ∷ [])) k d ≡ f k) (sym e) (get_or_at (each n f) (f n) [] d n (length-each n f))
    | no e ↦ get_or-append (each n f) (f n ∷ []) d i (omega (arith, length-each n f)) ∙ getD-each n f d i (omega arith)
  ]

  -- a list is each of its elements
  pub each-getD : (l : List A) (d : A) → each (length l) (λ i. get_or l i d) ≡ l
  each-getD l d = ext_get_or d (each (length l) (λ i. get_or l i d)) l (length-each (length l) (λ i. get_or l i d))
      (λ i h. getD-each (length l) (λ i. get_or l i d) d i (omega (arith, length-each (length l) (λ i. get_or l i d))))

  -- ---- equal parts

  pub each_same : (n : ℕ) (f g : ℕ → A) → ((i : ℕ) → i < n → f i ≡ g i) → each n f ≡ each n g
  unfolding each
  each_same zero f g h = refl
  each_same (suc n) f g h = λ k. each_same n f g (λ i l. h i (omega arith)) k ++ (h n (le_refl _) k ∷ [])

  pub joined_same : (n : ℕ) (f g : ℕ → List A) → ((i : ℕ) → i < n → f i ≡ g i) → joined n f ≡ joined n g
  unfolding joined
  joined_same zero f g h = refl
  joined_same (suc n) f g h = λ k. joined_same n f g (λ i l. h i (omega arith)) k ++ h n (le_refl _) k

  -- ---- one run of parts after another

  pub joined-plus : (n m : ℕ) (f : ℕ → List A) → joined (n + m) f ≡ joined n f ++ joined m (λ i. f (n + i))
  unfolding joined
  joined-plus n zero f = ap (λ (k : ℕ). joined k f) (add-zero n) ∙ sym (append-nil (joined n f))
  joined-plus n (suc m) f =
      ap (λ (k : ℕ). joined k f) (add-suc n m) ∙ ap (λ (l : List A). l ++ f (n + m)) (joined-plus n m f)
      ∙ append_assoc (joined n f) (joined m (λ i. f (n + i))) (f (n + m))

  -- two blocks of r and s rounds in sequence, with the gap between them, are the block of r + 1 + s rounds
  pub layered-join : (r s : ℕ) (layer gap : ℕ → List A)
      → layered r layer gap ++ (gap r ++ layered s (λ t. layer (r + 1 + t)) (λ t. gap (r + 1 + t))) ≡ layered (r + 1 + s) layer gap
  unfolding layered joined
  layered-join r s layer gap =
      append_assoc (joined r both) (layer r) (gap r ++ (joined s both' ++ layer (r + 1 + s)))
      ∙ ap (λ (l : List A). joined r both ++ l) (sym (append_assoc (layer r) (gap r) (joined s both' ++ layer (r + 1 + s))))
      ∙ sym (append_assoc (joined r both) (both r) (joined s both' ++ layer (r + 1 + s)))
      ∙ sym (append_assoc (joined r both ++ both r) (joined s both') (layer (r + 1 + s)))
      ∙ ap (λ (l : List A). (l ++ joined s both') ++ layer (r + 1 + s)) (sym (joined-more r both))
      ∙ ap (λ (l : List A). l ++ layer (r + 1 + s)) (sym (joined-plus (r + 1) s both))
    where
      both : ℕ → List A
      both t = layer t ++ gap t

      both' : ℕ → List A
      both' t = both (r + 1 + t)

module _ {A B : Type 0} (g : A → B) where
  pub map_each : (n : ℕ) (f : ℕ → A) → map g (each n f) ≡ each n (λ i. g (f i))
  unfolding each
  map_each zero f = refl
  map_each (suc n) f = map-append g (each n f) (f n ∷ []) ∙ ap (λ (l : List B). l ++ (g (f n) ∷ [])) (map_each n f)

  pub map-joined : (n : ℕ) (f : ℕ → List A) → map g (joined n f) ≡ joined n (λ i. map g (f i))
  unfolding joined
  map-joined zero f = refl
  map-joined (suc n) f = map-append g (joined n f) (f n) ∙ ap (λ (l : List B). l ++ map g (f n)) (map-joined n f)

  pub map-layered : (rounds : ℕ) (layer gap : ℕ → List A) → map g (layered rounds layer gap) ≡ layered rounds (λ t. map g (layer t)) (λ t. map g (gap t))
  unfolding layered
  map-layered rounds layer gap =
      map-append g (joined rounds (λ t. layer t ++ gap t)) (layer rounds)
      ∙ ap (λ (l : List B). l ++ map g (layer rounds)) (map-joined rounds (λ t. layer t ++ gap t) ∙ joined_same rounds _ _ (λ t h. map-append g (layer t) (gap t)))

-- ---- a column that a loop writes from its start

module _ {A : Type 0} where
  -- one more place
  pub store-each : (l : List A) (i : ℕ) (f : ℕ → A) → set (sets l 0 (each i f)) i (f i) ≡ sets l 0 (each (i + 1) f)
  store-each l i f = sym (sets_more l (each i f) i (f i) (length-each i f)) ∙ ap (sets l 0) (sym (each_more i f))

  -- the whole column is what was written
  pub whole : (l vs : List A) → length vs ≡ length l → sets l 0 vs ≡ vs
  whole l vs e = sets_over l vs (omega arith) ∙ ap (λ r. vs ++ r) (drop_of_length-le l {i = length vs} (omega arith)) ∙ append-nil vs

  pub replicate-each : (n : ℕ) (v : A) → replicate n v ≡ each n (λ i. v)
  replicate-each n v = ext_get_or v (replicate n v) (each n (λ i. v)) (length-replicate n v ∙ sym (length-each n (λ i. v)))
      (λ i h. let k : i < n = omega (arith, length-replicate n v) in get_or-replicate n i v v k ∙ sym (getD-each n (λ i. v) v i k))
