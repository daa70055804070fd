-- Properties of a list that follow from those of its parts. Assumes nothing.
use mathlib.Core.Path.{◌≡◌, refl, sym, ap, ◌∙◌, subst}
use mathlib.Core.Bool.{Bool, true, false}
use mathlib.Core.List.{List, [], ◌∷◌, ◌++◌}
use Prim.Native.Nat.{ℕ, zero, suc, ◌+◌, ◌-◌, ◌*◌, ◌≤◌, ◌<◌}
use native.Mathlib.Nat.{le_refl, le_trans, suc-mul, zero-mul}
use native.Mathlib.Decide.{ℕ_discrete}
use native.Mathlib.Omega.{arith}
use lib.ListN.{length, get_or, length-append, get_or-append}
use lib.Seq.{get_or-append-add}
use Rattle.columns.specs.Lists.{each, joined, layered, when}
use Rattle.columns.proofs.Counting.{length-each, getD-each}

-- ---- keys that rise along the list, from lo and below hi

abbrev pub Keyed : {A : Type 0} (P : ℕ → A → Type 0) (lo hi : ℕ) → List A → Type 0
Keyed P lo hi [] = lo ≤ hi
Keyed P lo hi (x ∷ xs) = (k : ℕ) × (lo ≤ k) × P k x × Keyed P (suc k) hi xs

module _ {A : Type 0} (P : ℕ → A → Type 0) where
  pub keyed-from : (lo lo' hi : ℕ) (xs : List A) → lo' ≤ lo → Keyed P lo hi xs → Keyed P lo' hi xs
  keyed-from lo lo' hi [] h q = omega arith
  keyed-from lo lo' hi (x ∷ xs) h q = (q.0, le_trans h q.1, q.2, q.3)

  pub keyed-to : (lo hi hi' : ℕ) (xs : List A) → hi ≤ hi' → Keyed P lo hi xs → Keyed P lo hi' xs
  keyed-to lo hi hi' [] h q = le_trans q h
  keyed-to lo hi hi' (x ∷ xs) h q = (q.0, q.1, q.2, keyed-to (suc q.0) hi hi' xs h q.3)

  pub keyed-append : (lo mid hi : ℕ) (xs ys : List A) → Keyed P lo mid xs → Keyed P mid hi ys → Keyed P lo hi (xs ++ ys)
  keyed-append lo mid hi [] ys p q = keyed-from mid lo hi ys p q
  keyed-append lo mid hi (x ∷ xs) ys p q = (p.0, p.1, p.2, keyed-append (suc p.0) mid hi xs ys p.3 q)

  pub keyed-one : (k : ℕ) (x : A) → P k x → Keyed P k (k + 1) (x ∷ [])
  keyed-one k x p = (k, le_refl k, p, omega arith)

  pub keyed-when : (b : Bool) (k : ℕ) (x : A) → (b ≡ true → P k x) → Keyed P k (k + 1) (when b x)
  keyed-when true k x p = keyed-one k x (p refl)
  keyed-when false k x p = omega arith

  pub keyed-each : (n lo : ℕ) (f : ℕ → A) → ((i : ℕ) → i < n → P (lo + i) (f i)) → Keyed P lo (lo + n) (each n f)
  unfolding each
  keyed-each zero lo f h = omega arith
  keyed-each (suc n) lo f h =
      keyed-to lo (lo + n + 1) (lo + suc n) (each n f ++ (f n ∷ [])) (omega arith)
      (keyed-append lo (lo + n) (lo + n + 1) (each n f) (f n ∷ []) (keyed-each n lo f (λ i l. h i (omega arith))) (keyed-one (lo + n) (f n) (h n (le_refl _))))

  pub keyed-strides : (n lo s : ℕ) (f : ℕ → A) → 1 ≤ s → ((i : ℕ) → i < n → P (lo + i * s) (f i)) → Keyed P lo (lo + n * s) (each n f)
  unfolding each
  keyed-strides zero lo s f one h = omega (arith, zero-mul s)
  keyed-strides (suc n) lo s f one h =
      keyed-to lo (lo + n * s + 1) (lo + suc n * s) (each n f ++ (f n ∷ [])) (omega (arith, suc-mul n s))
      (keyed-append lo (lo + n * s) (lo + n * s + 1) (each n f) (f n ∷ []) (keyed-strides n lo s f one (λ i l. h i (omega arith))) (keyed-one (lo + n * s) (f n) (h n (le_refl _))))

  pub keyed-joined : (n lo s : ℕ) (f : ℕ → List A) → ((i : ℕ) → i < n → Keyed P (lo + i * s) (lo + i * s + s) (f i)) → Keyed P lo (lo + n * s) (joined n f)
  unfolding joined
  keyed-joined zero lo s f h = omega (arith, zero-mul s)
  keyed-joined (suc n) lo s f h =
      keyed-to lo (lo + n * s + s) (lo + suc n * s) (joined n f ++ f n) (omega (arith, suc-mul n s))
      (keyed-append lo (lo + n * s) (lo + n * s + s) (joined n f) (f n) (keyed-joined n lo s f (λ i l. h i (omega arith))) (h n (le_refl _)))

  pub keyed-layered : (rounds s : ℕ) (layer gap : ℕ → List A) → ((t : ℕ) → t ≤ rounds → Keyed P (t * (s + s)) (t * (s + s) + s) (layer t))
      → ((t : ℕ) → t < rounds → Keyed P (t * (s + s) + s) (t * (s + s) + (s + s)) (gap t)) → Keyed P 0 (rounds * (s + s) + s) (layered rounds layer gap)
  unfolding layered
  keyed-layered rounds s layer gap p q =
      keyed-append 0 (0 + rounds * (s + s)) (rounds * (s + s) + s) (joined rounds (λ t. layer t ++ gap t)) (layer rounds)
      (keyed-joined rounds 0 (s + s) (λ t. layer t ++ gap t) (λ t h.
      keyed-from (t * (s + s)) (0 + t * (s + s)) (0 + t * (s + s) + (s + s)) (layer t ++ gap t) (omega arith)
      (keyed-to (t * (s + s)) (t * (s + s) + (s + s)) (0 + t * (s + s) + (s + s)) (layer t ++ gap t) (omega arith)
      (keyed-append (t * (s + s)) (t * (s + s) + s) (t * (s + s) + (s + s)) (layer t) (gap t) (p t (omega arith)) (q t h)))))
      (keyed-from (rounds * (s + s)) (0 + rounds * (s + s)) (rounds * (s + s) + s) (layer rounds) (omega arith) (p rounds (le_refl _)))

  -- what an element has; two elements have different keys
  pub keyed-at : (lo hi : ℕ) (xs : List A) (x : A) (j : ℕ) → Keyed P lo hi xs → j < length xs → (k : ℕ) × (lo ≤ k) × P k (get_or xs j x)
  keyed-at lo hi [] x j q h = absurd (omega arith)
  keyed-at lo hi (y ∷ xs) x zero q h = (q.0, q.1, q.2)
  keyed-at lo hi (y ∷ xs) x (suc j) q h = let z = keyed-at (suc q.0) hi xs x j q.3 (omega arith) in (z.0, omega (arith, z.1, q.1), z.2)

  pub keyed-two : (lo hi : ℕ) (xs : List A) (x : A) (i j : ℕ) → Keyed P lo hi xs → i < j → j < length xs
      → (k : ℕ) × (l : ℕ) × (k < l) × P k (get_or xs i x) × P l (get_or xs j x)
  keyed-two lo hi [] x i j q g h = absurd (omega arith)
  keyed-two lo hi (y ∷ xs) x i zero q g h = absurd (omega arith)
  keyed-two lo hi (y ∷ xs) x zero (suc j) q g h = let z = keyed-at (suc q.0) hi xs x j q.3 (omega arith) in (q.0, z.0, z.1, q.2, z.2)
  keyed-two lo hi (y ∷ xs) x (suc i) (suc j) q g h = keyed-two (suc q.0) hi xs x i j q.3 (omega arith) (omega arith)

-- ---- what stands at each place, by its number

abbrev pub Laid : {A : Type 0} (P : ℕ → A → Type 0) (from : ℕ) → List A → Type 0
Laid P from [] = Unit {0}
Laid P from (x ∷ xs) = P from x × Laid P (suc from) xs

module _ {A : Type 0} (P : ℕ → A → Type 0) where
  pub laid_from : (from from' : ℕ) (xs : List A) → from ≡ from' → Laid P from xs → Laid P from' xs
  laid_from from from' xs e p = subst (λ (n : ℕ). Laid P n xs) e p

  pub laid-append : (from : ℕ) (xs ys : List A) → Laid P from xs → Laid P (from + length xs) ys → Laid P from (xs ++ ys)
  laid-append from [] ys p q = laid_from (from + 0) from ys (omega arith) q
  laid-append from (x ∷ xs) ys p q = (p.0, laid-append (suc from) xs ys p.1 (laid_from (from + suc (length xs)) (suc from + length xs) ys (omega arith) q))

  pub laid_each : (n from : ℕ) (f : ℕ → A) → ((i : ℕ) → i < n → P (from + i) (f i)) → Laid P from (each n f)
  unfolding each
  laid_each zero from f h = tt
  laid_each (suc n) from f h =
      laid-append from (each n f) (f n ∷ []) (laid_each n from f (λ i l. h i (omega arith)))
      (laid_from (from + n) (from + length (each n f)) (f n ∷ []) (omega (arith, length-each n f)) (h n (le_refl _), tt))

  pub laid-joined : (n from s : ℕ) (f : ℕ → List A) → ((i : ℕ) → length (f i) ≡ s) → ((i : ℕ) → i < n → Laid P (from + i * s) (f i)) → Laid P from (joined n f)
  unfolding joined
  laid-joined zero from s f l h = tt
  laid-joined (suc n) from s f l h =
      laid-append from (joined n f) (f n) (laid-joined n from s f l (λ i k. h i (omega arith)))
      (laid_from (from + n * s) (from + length (joined n f)) (f n) (omega (arith, Rattle.columns.proofs.Counting.length-joined n s f (λ i k. l i))) (h n (le_refl _)))

  pub laid-at : (from : ℕ) (xs : List A) (x : A) (j : ℕ) → Laid P from xs → j < length xs → P (from + j) (get_or xs j x)
  laid-at from [] x j p h = absurd (omega arith)
  laid-at from (y ∷ xs) x zero p h = subst (λ (n : ℕ). P n y) (omega arith) p.0
  laid-at from (y ∷ xs) x (suc j) p h = subst (λ (n : ℕ). P n (get_or xs j x)) (omega arith) (laid-at (suc from) xs x j p.1 (omega arith))

-- ---- an element by its number, where each part has s elements

pub get_d_joined : {A : Type 0} (n s : ℕ) (f : ℕ → List A) (r k i : ℕ) (x : A) → ((j : ℕ) → length (f j) ≡ s) → r < n → i < s → k ≡ r * s + i → get_or (joined n f) k x ≡ get_or (f r) i x
unfolding joined
get_d_joined zero s f r k i x l h g e = absurd (omega arith)
get_d_joined (suc n) s f r k i x l h g e =
    let m = Rattle.columns.proofs.Counting.length-joined n s f (λ j q. l j) in
    elim (ℕ_discrete r n) [
      | yes q ↦
          let p : k ≡ length (joined n f) + i = e ∙ ap (λ (z : ℕ). z * s + i) q ∙ ap (λ (z : ℕ). z + i) (sym m) in
          ap (λ (z : ℕ). get_or (joined n f ++ f n) z x) p ∙ get_or-append-add (joined n f) (f n) i x ∙ ap (λ (z : ℕ). get_or (f z) i x) (sym q)
      | no q ↦
          let room : r * s + s ≤ n * s = Rattle.codes_writers.proofs.Wrote.row_room n s (omega arith) in
          get_or-append (joined n f) (f n) x k (omega arith) ∙ get_d_joined n s f r k i x l (omega arith) g e
    ]

-- ---- an element of a list, at some place

pub record Has {A : Type 0} (x₀ x : A) (xs : List A) : Type 0 where
  pub place : ℕ
  pub in_list : place < length xs
  pub is : get_or xs place x₀ ≡ x

module _ {A : Type 0} (x₀ x : A) where
  pub has_first : (xs ys : List A) → Has x₀ x xs → Has x₀ x (xs ++ ys)
  has_first xs ys h = record {
    place = h.place;
    in_list = omega (arith, length-append xs ys, h.in_list);
    is = get_or-append xs ys x₀ h.place h.in_list ∙ h.is;
  }

  pub has-then : (xs ys : List A) → Has x₀ x ys → Has x₀ x (xs ++ ys)
  has-then xs ys h = record {
    place = length xs + h.place;
    in_list = omega (arith, length-append xs ys, h.in_list);
    is = get_or-append-add xs ys h.place x₀ ∙ h.is;
  }

  pub has-joined : (n : ℕ) (f : ℕ → List A) (i : ℕ) → i < n → Has x₀ x (f i) → Has x₀ x (joined n f)
  unfolding joined
  has-joined zero f i l h = absurd (omega arith)
  has-joined (suc n) f i l h = elim (ℕ_discrete i n) [
    | yes e ↦ has-then (joined n f) (f n) (subst (λ (k : ℕ). Has x₀ x (f k)) e h)
    | no e ↦ has_first (joined n f) (f n) (has-joined n f i (omega arith) h)
  ]

  pub has-layer : (rounds : ℕ) (layer gap : ℕ → List A) (t : ℕ) → t ≤ rounds → Has x₀ x (layer t) → Has x₀ x (layered rounds layer gap)
  unfolding layered
  has-layer rounds layer gap t l h = elim (ℕ_discrete t rounds) [
    | yes e ↦ has-then (joined rounds (λ s. layer s ++ gap s)) (layer rounds) (subst (λ (k : ℕ). Has x₀ x (layer k)) e h)
    | no e ↦ has_first (joined rounds (λ s. layer s ++ gap s)) (layer rounds) (has-joined rounds (λ s. layer s ++ gap s) t (omega arith) (has_first (layer t) (gap t) h))
  ]

pub has_each : {A : Type 0} (x₀ : A) (n : ℕ) (f : ℕ → A) (i : ℕ) → i < n → Has x₀ (f i) (each n f)
has_each x₀ n f i h = record { place = i; in_list = omega (arith, length-each n f); is = getD-each n f x₀ i h }

-- ---- a list that starts with another

pub record Starts {A : Type 0} (xs whole : List A) : Type 0 where
  pub rest : List A
  pub is : whole ≡ xs ++ rest

module _ {A : Type 0} where
  pub starts-append : (xs ys zs : List A) → Starts xs ys → Starts xs (ys ++ zs)
  starts-append xs ys zs s = record { rest = s.rest ++ zs; is = ap (λ (l : List A). l ++ zs) s.is ∙ mathlib.Core.List.append_assoc xs s.rest zs }

  pub starts-self : (xs : List A) → Starts xs xs
  starts-self xs = record { rest = []; is = sym (mathlib.Core.List.append-nil xs) }

  pub starts-joined : (n : ℕ) (f : ℕ → List A) (xs : List A) → 0 < n → Starts xs (f 0) → Starts xs (joined n f)
  unfolding joined
  starts-joined zero f xs h s = absurd (omega arith)
  starts-joined (suc zero) f xs h s = s
  starts-joined (suc (suc n)) f xs h s = starts-append xs (joined (suc n) f) (f (suc n)) (starts-joined (suc n) f xs (omega arith) s)

  pub starts-layered : (rounds : ℕ) (layer gap : ℕ → List A) (xs : List A) → Starts xs (layer 0) → Starts xs (layered rounds layer gap)
  unfolding layered joined
  starts-layered zero layer gap xs s = s
  starts-layered (suc r) layer gap xs s =
      starts-append xs (joined (suc r) (λ t. layer t ++ gap t)) (layer (suc r)) (starts-joined (suc r) (λ t. layer t ++ gap t) xs (omega arith) (starts-append xs (layer 0) (gap 0) s))

  pub starts-at : (xs whole : List A) (x : A) (k : ℕ) → Starts xs whole → k < length xs → (get_or whole k x ≡ get_or xs k x) × (k < length whole)
  starts-at xs whole x k s h = (
    ap (λ (l : List A). get_or l k x) s.is ∙ get_or-append xs s.rest x k h,
    omega (arith, ap length s.is, length-append xs s.rest),
  )
