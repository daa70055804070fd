-- Edges whose ends are known by layer, row and place, with keys that tell them apart. Assumes nothing.
use mathlib.Core.Path.{◌≡◌, sym, ap, ◌∙◌, subst}
use mathlib.Core.List.{List}
use Prim.Native.Nat.{ℕ, ◌+◌, ◌-◌, ◌*◌, ◌/◌, ◌%◌, ◌≤◌, ◌<◌}
use native.Mathlib.Omega.{arith}
use lib.Arith.{digits_div, digits_mod}
use lib.ListN.{length, get_or}
use Rattle.codes_writers.specs.Edges.{Ends}
use Rattle.codes_graphs.proofs.Parts.{Keyed, keyed-at, keyed-two}

-- an edge of a graph of n vertices, from place i of a row of layer t, with `rows` rows of w places in a layer, to the vertex that comes `far` later
pub record Known (w rows : ℕ) (key : (t row i far : ℕ) → ℕ) (height : ℕ → ℕ) (n k : ℕ) (e : Ends) : Type 0 where
  pub t : ℕ
  pub row : ℕ
  pub i : ℕ
  pub far : ℕ
  pub row_in : row < rows
  pub i_in : i < w
  pub from : e.0 ≡ (t * rows + row) * w + i
  pub to : e.1 ≡ e.0 + far
  pub forward : 1 ≤ far
  pub within : e.1 < n
  pub up : height e.0 ≤ height e.1 + 1
  pub down : height e.1 ≤ height e.0 + 1
  pub key_is : k ≡ key t row i far

module _ (w rows : ℕ) (key : (t row i far : ℕ) → ℕ) (height : ℕ → ℕ) (n : ℕ) where
  -- the key of an edge depends on its ends alone
  key_of : Ends → ℕ
  key_of e = key (e.0 / w / rows) (e.0 / w % rows) (e.0 % w) (e.1 - e.0)

  key-known : (k : ℕ) (e : Ends) → Known w rows key height n k e → k ≡ key_of e
  unfolding key_of
  key-known k e z =
      let place : e.0 % w ≡ z.i = ap (λ (m : ℕ). m % w) z.from ∙ digits_mod (z.t * rows + z.row) z.i_in in
      let line : e.0 / w ≡ z.t * rows + z.row = ap (λ (m : ℕ). m / w) z.from ∙ digits_div (z.t * rows + z.row) z.i_in in
      let r : e.0 / w % rows ≡ z.row = ap (λ (m : ℕ). m % rows) line ∙ digits_mod z.t z.row_in in
      let l : e.0 / w / rows ≡ z.t = ap (λ (m : ℕ). m / rows) line ∙ digits_div z.t z.row_in in
      let f : e.1 - e.0 ≡ z.far = omega (arith, z.to) in
      z.key_is ∙ sym (λ j. key (l j) (r j) (place j) (f j))

  pub differ : (k l : ℕ) (e : Ends) → Known w rows key height n k e → Known w rows key height n l e → k ≡ l
  differ k l e p q = key-known k e p ∙ sym (key-known l e q)

  module _ (lo hi : ℕ) (es : List Ends) (all : Keyed (Known w rows key height n) lo hi es) where
    pub known_at : (k : ℕ) → k < length es → (x : ℕ) × Known w rows key height n x (get_or es k (0, 0))
    known_at k h = let z = keyed-at (Known w rows key height n) lo hi es (0, 0) k all h in (z.0, z.2)

    -- no two edges are equal
    pub apart : (j k : ℕ) → j < k → k < length es → get_or es j (0, 0) ≡ get_or es k (0, 0) → ⊥
    apart j k h l e =
        let z = keyed-two (Known w rows key height n) lo hi es (0, 0) j k all h l in
        let same : z.0 ≡ z.1 = differ z.0 z.1 (get_or es k (0, 0)) (subst (λ (x : Ends). Known w rows key height n z.0 x) e z.3) z.4 in
        omega (arith, z.2)
