-- An inner vertex's byte after flips goes by how many ends of the listed edges are there. Assumes nothing.
use mathlib.Core.Path.{◌≡◌, sym, ap, ◌∙◌}
use mathlib.Core.List.{List, [], ◌∷◌}
use Prim.Native.Nat.{ℕ, ◌+◌, ◌-◌, ◌%◌, ◌≤◌, ◌<◌}
use native.Mathlib.Decide.{ℕ_discrete}
use native.Mathlib.Omega.{arith}
use lib.ListN.{length, get_or, set}
use lib.Seq.{get_or-set_same, get_or-set_other}
use borrow.Author.Tests.{eq-eqb, ne_eqb}
use Rattle.sampling_flips.specs.Flip.{flipped, flip_at, flip_edge, flip_each}
use Rattle.sampling_flips.proofs.Flipping.{length-flip_at, length-flipEdge}
use Rattle.sampling_calls.specs.Syndrome.{hit, ends_in}

module _ (a b m : List ℕ) (u : ℕ) (is-inner : get_or m u 0 ≡ 0) where
  hit_same : (x : ℕ) → u ≡ x → hit u x ≡ 1
  hit_same x e = simp (eq-eqb x u (sym e))

  hit_other : (x : ℕ) → (u ≡ x → ⊥) → hit u x ≡ 0
  hit_other x f = simp (ne_eqb x u (λ e. f (sym e)))

  flipAt-inner : (v : ℕ) (d : List ℕ) → u < length d → get_or d u 0 ≤ 1 → get_or (flip_at m v d) u 0 ≡ (get_or d u 0 + hit u v) % 2
  unfolding flip_at
  flipAt-inner v d h l = elim (ℕ_discrete u v) [
    | yes e ↦
        let s : get_or (set d v (flipped (get_or m v 0) (get_or d v 0))) u 0 ≡ 1 - get_or d u 0 =
        rw (sym e) (get_or-set_same d u (flipped (get_or m u 0) (get_or d u 0)) 0 h ∙ ap (λ (n : ℕ). flipped n (get_or d u 0)) is-inner) in
        omega (arith, hit_same v e)
    | no e ↦
        let s : get_or (set d v (flipped (get_or m v 0) (get_or d v 0))) u 0 ≡ get_or d u 0 = get_or-set_other d v u (flipped (get_or m v 0) (get_or d v 0)) 0 e in
        omega (arith, hit_other v e)
  ]

  flipEdge-inner : (k : ℕ) (d : List ℕ) → u < length d → get_or d u 0 ≤ 1
      → get_or (flip_edge a b m k d) u 0 ≡ (get_or d u 0 + (hit u (get_or a k 0) + hit u (get_or b k 0))) % 2
  unfolding flip_edge
  flipEdge-inner k d h l =
      let one = flipAt-inner (get_or a k 0) d h l in
      let two = flipAt-inner (get_or b k 0) (flip_at m (get_or a k 0) d) (omega (arith, length-flip_at m (get_or a k 0) d)) (omega arith) in
      omega (arith, one, two)

  pub flipEach-inner : (ks d : List ℕ) → u < length d → get_or d u 0 ≤ 1 → get_or (flip_each a b m ks d) u 0 ≡ (get_or d u 0 + ends_in a b ks u) % 2
  unfolding flip_each ends_in
  flipEach-inner [] d h l = omega arith
  flipEach-inner (k ∷ ks) d h l =
      let one = flipEdge-inner k d h l in
      let more = flipEach-inner ks (flip_edge a b m k d) (omega (arith, length-flipEdge a b m k d)) (omega arith) in
      omega (arith, one, more)
