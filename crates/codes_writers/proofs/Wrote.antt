-- Laws of runs of stored edges. Assumes nothing.
use mathlib.Core.Path.{◌≡◌, refl, sym, ap, ◌∙◌, subst}
use Prim.Native.Nat.{ℕ, zero, suc, ◌+◌, ◌-◌, ◌*◌, ◌≤◌, ◌<◌}
use native.Mathlib.Nat.{add-zero, le_antisymm, mul-le-mul_right}
use native.Mathlib.Omega.{arith}
use mathlib.Core.List.{List, [], ◌∷◌, ◌++◌, map, map-append}
use lib.ListN.{length, length-append, length-map}
use lib.Seq.{sets, length-sets}
use Rattle.columns.specs.Lists.{each, joined}
use Rattle.columns.proofs.Columns.{sets-append}
use Rattle.columns.proofs.Counting.{each_more, joined-more, length-each, joined-room, times_next}
use Rattle.codes_writers.specs.Edges.{Ends, firsts, seconds}
use Rattle.codes_writers.specs.Steps.{Room, Wrote}

-- a row within its rows
pub row_room : (rows w : ℕ) {row : ℕ} → row < rows → row * w + w ≤ rows * w
row_room rows w {row} h = omega (arith, times_next row w, mul-le-mul_right {m = row + 1} {n = rows} w (omega arith))

-- one column: a run of stores after another
pub run_then : {A B : Type 0} (f : A → B) (x₀ : List B) {x y : List B} (at : ℕ) {m : ℕ} (es fs : List A)
    → x ≡ sets x₀ at (map f es) → m ≡ at + length es → y ≡ sets x m (map f fs) → y ≡ sets x₀ at (map f (es ++ fs))
run_then {B = B} f x₀ {x} {y} at {m} es fs p n q =
    q ∙ ap (λ (l : List B). sets l m (map f fs)) p
    ∙ ap (λ (k : ℕ). sets (sets x₀ at (map f es)) k (map f fs)) (n ∙ ap (λ (k : ℕ). at + k) (sym (length-map es f)))
    ∙ sym (sets-append x₀ at (map f es) (map f fs)) ∙ ap (λ (l : List B). sets x₀ at l) (sym (map-append f es fs))

-- one count after another
pub next_then : {A : Type 0} (at : ℕ) {m r : ℕ} (es fs : List A) → m ≡ at + length es → r ≡ m + length fs → r ≡ at + length (es ++ fs)
next_then at es fs p q = omega (arith, length-append es fs)

-- the same edges by another name
pub room_as : {a b : List ℕ} {at : ℕ} {es fs : List Ends} → es ≡ fs → Room a b at es → Room a b at fs
room_as {a} {b} {at} e r = subst (λ (l : List Ends). Room a b at l) e r

-- where a run of es and then fs has room, es has room
pub room_first : {a b : List ℕ} {at : ℕ} (es fs : List Ends) → Room a b at (es ++ fs) → Room a b at es
room_first es fs r = record { room_a = omega (arith, r.room_a, length-append es fs); room_b = omega (arith, r.room_b, length-append es fs) }

module _ {a₀ b₀ : List ℕ} {at : ℕ} where
  pub wrote_none : Wrote a₀ b₀ at [] a₀ b₀ at
  wrote_none = record { in_a = refl; in_b = refl; next = sym (add-zero at) }

  module _ {es : List Ends} {a b : List ℕ} {m : ℕ} where
    -- the columns keep their lengths
    pub wrote-a : Wrote a₀ b₀ at es a b m → length a ≡ length a₀
    wrote-a p = ap length p.in_a ∙ length-sets a₀ at (firsts es)

    pub wrote-b : Wrote a₀ b₀ at es a b m → length b ≡ length b₀
    wrote-b p = ap length p.in_b ∙ length-sets b₀ at (seconds es)

    -- one run after another
    pub wrote_then : {fs : List Ends} {a' b' : List ℕ} {r : ℕ} → Wrote a₀ b₀ at es a b m → Wrote a b m fs a' b' r → Wrote a₀ b₀ at (es ++ fs) a' b' r
    wrote_then {fs} p q = record {
      in_a = run_then (λ (e : Ends). e.0) a₀ at es fs p.in_a p.next q.in_a;
      in_b = run_then (λ (e : Ends). e.1) b₀ at es fs p.in_b p.next q.in_b;
      next = next_then at es fs p.next q.next;
    }

    -- the same edges by another name
    pub wrote_as : {fs : List Ends} → es ≡ fs → Wrote a₀ b₀ at es a b m → Wrote a₀ b₀ at fs a b m
    wrote_as e p = subst (λ (l : List Ends). Wrote a₀ b₀ at l a b m) e p

    -- where a run of es and then fs has room, fs has room after es
    pub room-then : (fs : List Ends) → Room a₀ b₀ at (es ++ fs) → Wrote a₀ b₀ at es a b m → Room a b m fs
    room-then fs r p = record {
      room_a = omega (arith, r.room_a, wrote-a p, p.next, length-append es fs);
      room_b = omega (arith, r.room_b, wrote-b p, p.next, length-append es fs);
    }

  -- a loop that stores one edge a turn: room for the next, the turn, the end
  module _ (f : ℕ → Ends) {i : ℕ} {a b : List ℕ} {m : ℕ} where
    pub each_fits : (n : ℕ) → Room a₀ b₀ at (each n f) → Wrote a₀ b₀ at (each i f) a b m → i < n → (m < length a) × (m < length b)
    each_fits n r p h = omega (arith, r, wrote-a p, wrote-b p, p.next, length-each n f, length-each i f)

    pub each_turn : {a' b' : List ℕ} {r : ℕ} → Wrote a₀ b₀ at (each i f) a b m → Wrote a b m (f i ∷ []) a' b' r → Wrote a₀ b₀ at (each (i + 1) f) a' b' r
    each_turn p q = wrote_as (sym (each_more i f)) (wrote_then p q)

    pub each-end : {n : ℕ} → Wrote a₀ b₀ at (each i f) a b m → i ≤ n → n ≤ i → Wrote a₀ b₀ at (each n f) a b m
    each-end p h k = wrote_as (ap (λ (j : ℕ). each j f) (le_antisymm h k)) p

  -- a loop that stores a list of edges a turn
  module _ (f : ℕ → List Ends) {i : ℕ} {a b : List ℕ} {m : ℕ} where
    pub joined-fits : (n : ℕ) → Room a₀ b₀ at (joined n f) → Wrote a₀ b₀ at (joined i f) a b m → i < n → Room a b m (f i)
    joined-fits n r p h = record {
      room_a = omega (arith, r.room_a, wrote-a p, p.next, joined-room n f i h);
      room_b = omega (arith, r.room_b, wrote-b p, p.next, joined-room n f i h);
    }

    pub joined-turn : {a' b' : List ℕ} {r : ℕ} → Wrote a₀ b₀ at (joined i f) a b m → Wrote a b m (f i) a' b' r → Wrote a₀ b₀ at (joined (i + 1) f) a' b' r
    joined-turn p q = wrote_as (sym (joined-more i f)) (wrote_then p q)

    pub joined_end : {n : ℕ} → Wrote a₀ b₀ at (joined i f) a b m → i ≤ n → n ≤ i → Wrote a₀ b₀ at (joined n f) a b m
    joined_end p h k = wrote_as (ap (λ (j : ℕ). joined j f) (le_antisymm h k)) p
