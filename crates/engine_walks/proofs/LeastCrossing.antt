-- The crossing: the least weight of a left-right walk is the least weight of a crossing set; settling from the left finds it; certificates. Assumes nothing.
use mathlib.Core.Path.{◌≡◌, refl, sym, ap, ap₂, ◌∙◌, subst}
use mathlib.Core.Logic.{inl, inr, ⊎_elim, ◌≢◌}
use mathlib.Core.Bool.{Bool, true, false, ◌&&◌, true≢false}
use mathlib.Core.List.{List}
use mathlib.Core.Option.{Option, some, none}
use Prim.Native.Nat.{ℕ, ◌+◌, ◌≤◌, ◌<◌, min}
use native.Mathlib.Nat.{le_antisymm}
use native.Mathlib.Decide.{ℕ_discrete}
use native.Mathlib.Omega.{arith}
use lib.ListN.{length}
use lib.IntN.{ℤ, pos, negsuc}
use lib.Dec.{eqb}
use borrow.Author.Tests.{eqb-true, eq-eqb}
use Rattle.engine_walks.specs.Graph.{Graph, end_a, end_b, edges, boundary_at, GraphInRange, Left, Right, Joins, Walk, CrossingSet, CrossingWeight}
use Rattle.engine_walks.specs.Settling.{State, status_at, weight_at}
use Rattle.engine_walks.specs.Answers.{is_left, taken, weight_in, table_weight, from_left, least_from_left, nearest_right, crossing, weight_of}
use Rattle.engine_walks.specs.Claims.{IsCrossing, CrossingAnswer, LeftWeight, CrossingIsLeast, Potential, cut_off_at, CrossingIsBounded, CertificateDecides, IsFirst}
use Rattle.columns.proofs.Counting.{length-each}
use Rattle.engine_walks.proofs.LowerBound.{lower-bound, rises_at_most}
use Rattle.engine_walks.proofs.UpperBound.{cancel, cancel_is, upper_bound}
use Rattle.engine_walks.proofs.LeastWeights.{least, taken-no-lighter, all-taken}
use Rattle.engine_walks.proofs.FirstLeast.{first-least}
use Rattle.engine_walks.proofs.Turns.{Sources, Valid, not_absent_in, settle-valid, settled-rests, end_taken}
use Rattle.engine_walks.proofs.TableAndPath.{column-taken, column-other}

-- ---- from walks to sets

-- where a potential reaches the crossing weight, that is also the least weight of a crossing set
pub sets_of : {g : Graph} {w : ℕ → ℕ} {W : ℕ} {f : ℕ → ℕ} → GraphInRange g → Potential g w W f → CrossingWeight g w W → IsCrossing g w W
sets_of {g} {w} {W} {f} ok p c =
    let (x, y, s, l, r, q, e) = c.a_walk in
    let u : CrossingSet g (cancel s) = upper_bound l r q in
    record {
      walk = c;
      a_set = (cancel s, u, le_antisymm (omega (arith, (cancel_is s).atmost w)) (lower-bound ok u W w f p));
      every_set = λ t d. lower-bound ok d W w f p;
    }

-- ---- settling from the left

pub left-sources : (g : Graph) → Sources g (is_left g) (Left g)
left-sources g = record { inside = λ v p. p.0; passes = λ v p. eq-eqb (boundary_at g v) 1 p.1; named = λ v h e. (h, eqb-true (boundary_at g v) 1 e) }

cut_off_le : (W : ℕ) (z : ℤ) → cut_off_at W z ≤ W
cut_off_le W (pos k) = omega arith
cut_off_le W (negsuc n) = omega arith

and_true : (a b : Bool) → (a && b) ≡ true → (a ≡ true) × (b ≡ true)
and_true true b e = (refl, e)
and_true false b e = absurd (true≢false (sym e))

module _ {g : Graph} (ok : GraphInRange g) (w : ℕ → ℕ) where
  abbrev S : State
  S = from_left g w

  valid : Valid g w (Left g) S
  unfolding from_left
  valid = settle-valid ok w (left-sources g) none g.vertices

  -- nothing waits in the end
  nothing-waits : (v : ℕ) → status_at S v ≢ 1
  unfolding from_left
  nothing-waits = ⊎_elim (λ d. d) (λ e. absurd (end_taken (is_left g) none S e)) (settled-rests ok w (left-sources g) none).0

  -- a vertex that waits or was taken was taken
  is-taken : (v : ℕ) → 1 ≤ status_at S v → status_at S v ≡ 2
  is-taken v h = omega (arith, nothing-waits v, valid.inv.small v)

  walked : {x v : ℕ} {s : List ℕ} → Left g x → Walk g x s v → status_at S v ≡ 2
  walked l p = all-taken valid.inv nothing-waits l p

  -- ---- the column of least weights

  column-pos : (v : ℕ) → status_at S v ≡ 2 → weight_in (least_from_left g w) v ≡ pos (weight_at S v)
  unfolding least_from_left
  column-pos v e = column-taken g.vertices S (λ v. pos (weight_at S v)) (negsuc 0) v (not_absent_in {k = 1} {s = S} valid.fits e) e

  column-none : (v : ℕ) → v < g.vertices → status_at S v ≢ 2 → weight_in (least_from_left g w) v ≡ negsuc 0
  unfolding least_from_left
  column-none v h e = column-other g.vertices S (λ v. pos (weight_at S v)) (negsuc 0) v h e

  pub column_is : (v : ℕ) → v < g.vertices → LeftWeight g w v (weight_in (least_from_left g w) v)
  column_is v h = elim (ℕ_discrete (status_at S v) 2) [
    | yes e ↦ subst (LeftWeight g w v) (sym (column-pos v e)) (least valid.inv v e)
    | no f ↦ subst (LeftWeight g w v) (sym (column-none v h f)) (refl, λ x l j. f (walked l j.1))
  ]

  pub column-length : length (least_from_left g w) ≡ g.vertices
  unfolding least_from_left
  column-length = length-each g.vertices (table_weight S)

  -- ---- the column cut off at the crossing weight is a potential

  module _ {W : ℕ} (c : CrossingWeight g w W) where
    height : ℕ → ℕ
    height v = cut_off_at W (weight_in (least_from_left g w) v)

    height-taken : (v : ℕ) → status_at S v ≡ 2 → height v ≡ min W (weight_at S v)
    unfolding height
    height-taken v e = ap (cut_off_at W) (column-pos v e)

    height-other : (v : ℕ) → v < g.vertices → status_at S v ≢ 2 → height v ≡ W
    unfolding height
    height-other v h e = ap (cut_off_at W) (column-none v h e)

    height-le : (v : ℕ) → height v ≤ W
    unfolding height
    height-le v = cut_off_le W (weight_in (least_from_left g w) v)

    along : (e x y : ℕ) → e < edges g → x < g.vertices → Joins g e x y → height y ≤ height x + w e
    along e x y h b j = elim (ℕ_discrete (status_at S x) 2) [
      | yes p ↦ let z = valid.inv.closed e x y h j p in omega (arith, height-taken x p, height-taken y (is-taken y z.0), z.1)
      | no f ↦ omega (arith, height-other x b f, height-le y)
    ]

    at_right : (v : ℕ) → Right g v → W ≤ height v
    at_right v r = elim (ℕ_discrete (status_at S v) 2) [
      | yes p ↦ let (x, s, l, q, e) = valid.inv.found v (omega arith) in omega (arith, height-taken v p, c.every_walk x v s l r q)
      | no f ↦ omega (arith, height-other v r.0 f)
    ]

    pub cut_off : Potential g w W (λ v. cut_off_at W (weight_in (least_from_left g w) v))
    unfolding height
    cut_off = record {
      left = λ v h e. let z = valid.inv.source v (h, e) in omega (arith, height-taken v (is-taken v z.0), z.1);
      right = λ v h e. at_right v (h, e);
      up = λ e h. along e (end_b g e) (end_a g e) h (ok.b_in e h) (inr (refl, refl));
      down = λ e h. along e (end_a g e) (end_b g e) h (ok.a_in e h) (inl (refl, refl));
    }

    -- so the least weight of a left-right walk is the least weight of a crossing set
    pub crossing-sets : IsCrossing g w W
    crossing-sets = sets_of ok cut_off c

  -- ---- the answer

  abbrev Test : ℕ → Bool
  Test v = eqb (boundary_at g v) 2 && taken S v

  test-passes : (v : ℕ) → Right g v → status_at S v ≡ 2 → Test v ≡ true
  test-passes v r e = ap₂ ◌&&◌ (eq-eqb (boundary_at g v) 2 r.1) (eq-eqb (status_at S v) 2 e)

  nearest-weight : (y : ℕ) → IsFirst Test (weight_at S) g.vertices (some y) → CrossingWeight g w (weight_at S y)
  nearest-weight y p =
      let t = and_true (eqb (boundary_at g y) 2) (taken S y) p.1 in
      let (x, s, l, q, e) = valid.inv.found y (omega (arith, eqb-true (status_at S y) 2 t.1)) in
      record {
        a_walk = (x, y, s, l, (p.0, eqb-true (boundary_at g y) 2 t.0), q, e);
        every_walk = λ x v s l r q. let e = walked l q in omega (arith, (p.2 v r.0 (test-passes v r e)).0, taken-no-lighter valid.inv l q e);
      }

  pub crossing_is : CrossingAnswer g w (crossing g w)
  unfolding crossing nearest_right
  crossing_is = go (nearest_right g w) (first-least Test (weight_at S) g.vertices)
    where
      go : (o : Option ℕ) → IsFirst Test (weight_at S) g.vertices o → CrossingAnswer g w (weight_of S o)
      go none p = λ x y l r j. true≢false (sym (test-passes y r (walked l j.1)) ∙ p y r.0)
      go (some y) p = crossing-sets (nearest-weight y p)

  -- ---- certificates

  -- there is one crossing weight
  crossing-one : {W W' : ℕ} → CrossingWeight g w W → CrossingWeight g w W' → W ≤ W'
  crossing-one c d = let (x, y, s, l, r, p, e) = d.a_walk in omega (arith, c.every_walk x y s l r p)

  pub crossing-found : {W : ℕ} → CrossingWeight g w W → crossing g w ≡ some W
  crossing-found {W} c = go (crossing g w) crossing_is
    where
      go : (o : Option ℕ) → CrossingAnswer g w o → o ≡ some W
      go none f = let (x, y, s, l, r, p, e) = c.a_walk in absurd (f x y l r (s, p))
      go (some W') d = ap (λ k. some k) (le_antisymm (crossing-one d.walk c) (crossing-one c d.walk))

  pub crossing_of : {W : ℕ} → crossing g w ≡ some W → IsCrossing g w W
  crossing_of e = subst (CrossingAnswer g w) e crossing_is

pub crossing_is_least : CrossingIsLeast
crossing_is_least g w ok = (crossing_is ok w, column-length ok w, column_is ok w)

pub crossing_is_bounded : CrossingIsBounded
crossing_is_bounded g w ok = record {
  lower = λ W f p s c. lower-bound ok c W w f p;
  cut_off = λ W c. cut_off ok w c;
  upper = λ x y s l r p. (cancel s, upper_bound l r p, (cancel_is s).atmost w);
  equal = λ W c. crossing-sets ok w c;
}

pub certificate_decides : CertificateDecides
certificate_decides g w W f x y s ok p l r q e =
    let c : CrossingWeight g w W = record {
      a_walk = (x, y, s, l, r, q, e);
      every_walk = λ a b t i j k. omega (arith, rises_at_most p k, p.left a i.0 i.1, p.right b j.0 j.1);
    } in
    (sets_of ok p c, crossing-found ok w c)
