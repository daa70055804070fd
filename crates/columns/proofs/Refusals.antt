-- What an accepted question says, and loops that go by a map over a column's first places. Assumes nothing.
use mathlib.Core.Path.{◌≡◌, refl, sym, ap, ◌∙◌}
use mathlib.Core.Bool.{Bool, ◌&&◌, true, false, not, false≢true}
use mathlib.Core.List.{List, [], ◌∷◌, ◌++◌, map, map-append}
use Prim.Native.Nat.{ℕ, suc, ◌+◌, ◌≤◌, ◌<◌, min}
use native.Mathlib.Nat.{le_antisymm}
use native.Mathlib.Decide.{dec_le}
use native.Mathlib.Numerals.{add-one}
use native.Mathlib.Omega.{arith}
use lib.ListN.{length, take, get_or, set, length-take, length-map}
use lib.Seq.{sets, take-suc, take_all}
use Rattle.columns.specs.Questions.{ask}
use Rattle.columns.proofs.Columns.{sets_more}

-- no question refuses: this one is met, and so are those after it
pub met : (b : Bool) (number next : ℕ) → ask b (suc number) next ≡ 0 → b ≡ true
met true number next e = refl
met false number next e = absurd (omega arith)

pub goes_on : (b : Bool) (number next : ℕ) → ask b (suc number) next ≡ 0 → next ≡ 0
goes_on true number next e = e
goes_on false number next e = absurd (omega arith)

-- questions with equal answers give the same number
pub asks : {a b : Bool} {m n : ℕ} (number : ℕ) → a ≡ b → m ≡ n → ask a number m ≡ ask b number n
asks number e f = λ i. ask (e i) number (f i)

pub ands : {a b x y : Bool} → a ≡ b → x ≡ y → (a && x) ≡ (b && y)
ands e f = λ i. e i && f i

-- a test that a branch denies
pub not_true : (b : Bool) → not b ≡ true → b ≡ false
not_true false e = refl
not_true true e = absurd (false≢true e)

pub not_false : (b : Bool) → not b ≡ false → b ≡ true
not_false true e = refl
not_false false e = absurd (false≢true (sym e))

module _ {A : Type 0} (s : List A) where
  module _ {B : Type 0} (f : A → B) (d : A) where
    -- one element more
    pub map_more : (i : ℕ) → i < length s → map f (take (i + 1) s) ≡ map f (take i s) ++ (f (get_or s i d) ∷ [])
    map_more i h =
        ap (λ (k : ℕ). map f (take k s)) (add-one i) ∙ ap (map f) (take-suc s i d h) ∙ map-append f (take i s) (get_or s i d ∷ [])

    -- one store more
    pub store-more : (l : List B) (i : ℕ) → i < length s → set (sets l 0 (map f (take i s))) i (f (get_or s i d)) ≡ sets l 0 (map f (take (i + 1) s))
    store-more l i h =
        sym (sets_more l (map f (take i s)) i (f (get_or s i d)) (omega (arith, length-map (take i s) f, length-take i s)))
        ∙ ap (sets l 0) (sym (map_more i h))
