-- The last place of a load that names an edge decides its weight, and the first log entry that names it decides what undoing the log gives back. Assumes nothing.
use mathlib.Core.Path.{◌≡◌, refl, sym, ap, ◌∙◌}
use mathlib.Core.List.{List}
use Prim.Native.Nat.{ℕ, zero, suc, ◌≤◌, ◌<◌}
use native.Mathlib.Decide.{ℕ_discrete}
use native.Mathlib.Omega.{arith}
use lib.ListN.{length, get_or, set, length-set}
use lib.Seq.{get_or-set_same, get_or-set_other}
use Rattle.engine_log.specs.Load.{loaded, earlier, named, undone}
use Rattle.engine_log.proofs.Loads.{loaded-length}
use Rattle.engine_claims.specs.Log.{NoneNames, LastNames, FirstNames, LastWins, FirstWins}

-- a store at the edge that a place names
set-named : (w : List ℕ) {e k : ℕ} (x : ℕ) → k < length w → e ≡ k → get_or (set w e x) k 0 ≡ x
set-named w {e} {k} x h p = ap (λ (j : ℕ). get_or (set w j x) k 0) p ∙ get_or-set_same w k x 0 h

set_unnamed : (w : List ℕ) {e k : ℕ} (x : ℕ) → (e ≡ k → ⊥) → get_or (set w e x) k 0 ≡ get_or w k 0
set_unnamed w {e} {k} x f = get_or-set_other w e k x 0 (λ p. f (sym p))

-- ---- a load

module _ (es : List ℕ) (x : ℕ → ℕ) (w : List ℕ) (k : ℕ) where
  load-none : (n : ℕ) → NoneNames n es k → get_or (loaded es x n w) k 0 ≡ get_or w k 0
  load-none zero f = refl
  load-none (suc n) f = set_unnamed (loaded es x n w) (x n) (f n (omega arith)) ∙ load-none n (λ i h. f i (omega arith))

  load-last : k < length w → (n i : ℕ) → LastNames n es k i → get_or (loaded es x n w) k 0 ≡ x i
  load-last long zero i l = absurd (omega (arith, l.within))
  load-last long (suc n) i l = elim (ℕ_discrete i n) [
    | yes q ↦ set-named (loaded es x n w) (x n) (omega (arith, loaded-length es x n w)) (ap (λ (j : ℕ). get_or es j 0) (sym q) ∙ l.at_place) ∙ ap x (sym q)
    | no q ↦
        let h : i < n = omega (arith, l.within) in
        set_unnamed (loaded es x n w) (x n) (l.none_later n h (omega arith))
        ∙ load-last long n i (record { within = h; at_place = l.at_place; none_later = λ j g b. l.none_later j g (omega arith) })
  ]

  pub last-wins : k < length w → (n : ℕ) → LastWins n es x k (get_or w k 0) (get_or (loaded es x n w) k 0)
  last-wins long n = record { named = load-last long n; unnamed = load-none n }

-- places past the log's entries
pub named_past : (es l : List ℕ) (n i : ℕ) → n ≤ i → get_or (named es n l) i 0 ≡ get_or l i 0
named_past es l zero i h = refl
named_past es l (suc n) i h = set_unnamed (named es n l) (get_or es n 0) (λ q. omega arith) ∙ named_past es l n i (omega arith)

pub earlier_past : (es : List ℕ) (x : ℕ → ℕ) (w l : List ℕ) (n i : ℕ) → n ≤ i → get_or (earlier es x n w l) i 0 ≡ get_or l i 0
earlier_past es x w l zero i h = refl
earlier_past es x w l (suc n) i h = set_unnamed (earlier es x n w l) (get_or (loaded es x n w) (get_or es n 0) 0) (λ q. omega arith) ∙ earlier_past es x w l n i (omega arith)

-- ---- undoing a log

module _ (es ls : List ℕ) (k : ℕ) where
  back_none : (n : ℕ) (w : List ℕ) → NoneNames n es k → get_or (undone es ls n w) k 0 ≡ get_or w k 0
  back_none zero w f = refl
  back_none (suc n) w f = back_none n (set w (get_or es n 0) (get_or ls n 0)) (λ i h. f i (omega arith)) ∙ set_unnamed w (get_or ls n 0) (f n (omega arith))

  back-first : (n : ℕ) (w : List ℕ) → k < length w → (i : ℕ) → FirstNames n es k i → get_or (undone es ls n w) k 0 ≡ get_or ls i 0
  back-first zero w long i f = absurd (omega (arith, f.within))
  back-first (suc n) w long i f =
      let w' = set w (get_or es n 0) (get_or ls n 0) in
      elim (ℕ_discrete i n) [
        | yes q ↦
            back_none n w' (λ j h p. f.none_earlier j (omega arith) p)
            ∙ set-named w (get_or ls n 0) long (ap (λ (j : ℕ). get_or es j 0) (sym q) ∙ f.at_place) ∙ ap (λ (j : ℕ). get_or ls j 0) (sym q)
        | no q ↦
            back-first n w' (omega (arith, length-set w (get_or es n 0) (get_or ls n 0))) i
            (record { within = omega (arith, f.within); at_place = f.at_place; none_earlier = f.none_earlier })
      ]

  pub first-wins : (n : ℕ) (w : List ℕ) → k < length w → FirstWins n es ls k (get_or w k 0) (get_or (undone es ls n w) k 0)
  first-wins n w long = record { named = back-first n w long; unnamed = back_none n w }

pub load_past : (es : List ℕ) (x : ℕ → ℕ) (w : List ℕ) (n edges k : ℕ) → ((i : ℕ) → i < n → get_or es i 0 < edges) → edges ≤ k → get_or (loaded es x n w) k 0 ≡ get_or w k 0
load_past es x w n edges k below h = load-none es x w k n (λ i g p. omega (arith, below i g))

pub back_past : (es ls w : List ℕ) (n edges k : ℕ) → ((i : ℕ) → i < n → get_or es i 0 < edges) → edges ≤ k → get_or (undone es ls n w) k 0 ≡ get_or w k 0
back_past es ls w n edges k below h = back_none es ls k n w (λ i g p. omega (arith, below i g))
