-- The nearest virtual vertex of a table, as a loop finds it, and what its place says. Assumes nothing.
use mathlib.Core.Path.{◌≡◌, refl, sym, ap, ◌∙◌}
use mathlib.Core.Bool.{Bool, true, false, not, cond, ◌&&◌}
use mathlib.Core.List.{List}
use mathlib.Core.Option.{Option, some, none}
use Prim.Native.Nat.{ℕ, suc, ◌<◌}
use native.Mathlib.Omega.{arith}
use lib.ListN.{get_or}
use lib.Dec.{ltb}
use lib.IntN.{ℤ}
use borrow.Author.Tests.{eq-eqb, ne_eqb}
use Rattle.std.specs.Prelude as std
use Rattle.std.specs.Prelude.{◌+◌}
use Rattle.engine_walks.specs.Settling.{lesser, first_least}
use Rattle.engine_walks.specs.Answers.{weight_in}
use Rattle.engine_walks.specs.Claims.{IsFirst}
use Rattle.engine_walks.proofs.FirstLeast.{first-least}
use Rattle.prebuilt_entries.specs.Entries.{is_virtual}
use Rattle.prebuilt_entries.specs.Nearest.{is_reached, amount, nearer_of, place_found, nearest_in, boundary_in}

module _ (bytes : List ℕ) (least : List ℤ) where
  abbrev test : ℕ → Bool
  test u = is_virtual (get_or bytes u 0) && is_reached (weight_in least u)

  abbrev x : ℕ → ℕ
  x u = amount (weight_in least u)

  pub place_none : std.None ≡ place_found (nearest_in bytes least 0)
  unfolding first_least
  place_none = refl

  pub place-next : (u : ℕ) → cond (test u) (nearer_of least u (place_found (nearest_in bytes least u))) (place_found (nearest_in bytes least u)) ≡ place_found (nearest_in bytes least (u + 1))
  unfolding first_least
  place-next u = go (test u) (first_least test x u) ∙ ap (λ n. place_found (nearest_in bytes least n)) (let e : suc u ≡ u + 1 = omega arith in e)
    where
      pick : (b : Bool) (a : ℕ) → cond b (std.Some u) (std.Some a) ≡ place_found (cond b (some u) (some a))
      pick true a = refl
      pick false a = refl

      go : (b : Bool) (o : Option ℕ) → cond b (nearer_of least u (place_found o)) (place_found o) ≡ place_found (cond b (lesser x u o) o)
      go true none = refl
      go true (some a) = pick (ltb (x u) (x a)) a
      go false o = refl

  module _ (n v : ℕ) where
    pub at_virtual : (get_or bytes v 0 ≡ 0 → ⊥) → std.None ≡ place_found (boundary_in bytes least n v)
    at_virtual f = ap (λ b. place_found (cond (not b) none (nearest_in bytes least n))) (sym (ne_eqb (get_or bytes v 0) 0 f))

    pub at_inner : (r : std.Option ℕ) → get_or bytes v 0 ≡ 0 → r ≡ place_found (nearest_in bytes least n) → r ≡ place_found (boundary_in bytes least n v)
    at_inner r e q = q ∙ ap (λ b. place_found (cond (not b) none (nearest_in bytes least n))) (sym (eq-eqb (get_or bytes v 0) 0 e))

    -- a place says which vertex there is, and it is one of n
    pub place_some : (u : ℕ) → std.Some u ≡ place_found (boundary_in bytes least n v) → (u < n) × (some u ≡ boundary_in bytes least n v)
    place_some u e = go (is_virtual (get_or bytes v 0)) (nearest_in bytes least n) (first-least _ _ n) e
      where
        go : (b : Bool) (o : Option ℕ) → IsFirst test x n o → std.Some u ≡ place_found (cond b none o) → (u < n) × (some u ≡ cond b none o)
        go true o p e = absurd (let z : ◌≡◌ {A = ℕ} 0 1 = cc in omega arith)
        go false none p e = absurd (let z : ◌≡◌ {A = ℕ} 0 1 = cc in omega arith)
        go false (some a) p e = let q : u ≡ a = cc in (omega (arith, p.0), ap some q)
