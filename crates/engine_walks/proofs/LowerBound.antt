-- The lower bound: a potential shows that each crossing set weighs at least W. Assumes nothing.
use mathlib.Core.Path.{◌≡◌, refl, sym, ap, ap₂, ◌∙◌}
use mathlib.Core.Logic.{◌⊎◌, inl, inr}
use mathlib.Core.List.{List, [], ◌∷◌}
use Prim.Native.Nat.{ℕ, zero, suc, pred, ◌+◌, ◌-◌, ◌*◌, ◌/◌, ◌%◌, ◌≤◌, ◌<◌, zero-le}
use native.Mathlib.Nat.{zero-mul, one-mul}
use native.Mathlib.Decide.{ℕ_discrete}
use native.Mathlib.Omega.{arith}
use lib.Dec.{ltb}
use borrow.Author.Tests.{lt-ltb, le-ltb}
use Rattle.engine_walks.specs.Lists.{bit, delta, sum, All}
use Rattle.engine_walks.specs.Graph.{Graph, edges, end_a, end_b, boundary_at, GraphInRange, Walk, stay, step, degree, CrossingSet}
use Rattle.engine_walks.specs.Claims.{Potential}
use Rattle.engine_walks.proofs.Sums.{delta_other, bit_suc, sum_add, sum_zero, sum_same, sum_even}

-- ---- parity: what stands at the vertices, summed over the ends of the list's edges, vertex by vertex

-- d at the vertices below k, 0 at the others
below : ℕ → (ℕ → ℕ) → ℕ → ℕ
below k d x = bit (ltb x k) * d x

below_zero : (d : ℕ → ℕ) (x : ℕ) → below 0 d x ≡ 0
unfolding below
below_zero d x = rw (le-ltb x 0 zero-le) (zero-mul (d x))

below_all : (k : ℕ) (d : ℕ → ℕ) (x : ℕ) → x < k → below k d x ≡ d x
unfolding below
below_all k d x h = rw (lt-ltb x k h) (one-mul (d x))

below_suc : (k : ℕ) (d : ℕ → ℕ) (x : ℕ) → below (suc k) d x ≡ below k d x + delta x k * d k
unfolding below
below_suc k d x = elim (ℕ_discrete x k) [
  | yes e ↦ ap (λ b. b * d x) (bit_suc x k) ∙ omega (arith, ap (λ y. delta x k * d y) e)
  | no f ↦ ap (λ b. b * d x) (bit_suc x k) ∙ rw (delta_other x k f) (omega arith)
]

even_mul : (a b : ℕ) → (b % 2 ≡ 0) ⊎ (a % 2 ≡ 0) → (a * b) % 2 ≡ 0
even_mul a b (inl h) =
    let e : b ≡ 2 * (b / 2) = omega arith in
    let z : a * (2 * (b / 2)) % 2 ≡ 0 = omega arith in
    ap (λ x. a * x % 2) e ∙ z
even_mul a b (inr h) =
    let e : a ≡ 2 * (a / 2) = omega arith in
    let z : 2 * (a / 2) * b % 2 ≡ 0 = omega arith in
    ap (λ x. x * b % 2) e ∙ z

sum_split : (s : List ℕ) (p q r t : ℕ → ℕ) (k : ℕ)
    → sum s (λ e. (p e + r e * k) + (q e + t e * k)) ≡ sum s (λ e. p e + q e) + sum s (λ e. r e + t e) * k
sum_split [] p q r t k = omega arith
sum_split (e ∷ s) p q r t k = omega (arith, sum_split s p q r t k)

module _ (g : Graph) (d : ℕ → ℕ) (s : List ℕ) where
  -- the sum over both ends of each edge, of the vertices below k
  ends : ℕ → ℕ
  ends k = sum s (λ e. below k d (end_a g e) + below k d (end_b g e))

  ends-suc : (k : ℕ) → ends (suc k) ≡ ends k + degree g s k * d k
  unfolding ends
  ends-suc k = simp below_suc (sum_split s (λ e. below k d (end_a g e)) (λ e. below k d (end_b g e)) (λ e. delta (end_a g e) k) (λ e. delta (end_b g e) k) (d k))

  ends-even : (k : ℕ) → ((v : ℕ) → v < k → (d v % 2 ≡ 0) ⊎ (degree g s v % 2 ≡ 0)) → ends k % 2 ≡ 0
  unfolding ends
  ends-even zero h =
      ap (λ x. x % 2) (sum_zero s (λ e. below 0 d (end_a g e) + below 0 d (end_b g e)) (λ e. ap₂ ◌+◌ (below_zero d (end_a g e)) (below_zero d (end_b g e))))
  ends-even (suc k) h = rw ends-suc (omega (arith, ends-even k (λ v l. h v (omega arith)), even_mul (degree g s k) (d k) (h k (omega arith))))

-- d is even where the degree is odd: its sum over the ends of the listed edges is even
even_ends : (g : Graph) → GraphInRange g → (d : ℕ → ℕ) (s : List ℕ) → All (λ e. e < edges g) s
    → ((v : ℕ) → v < g.vertices → (d v % 2 ≡ 0) ⊎ (degree g s v % 2 ≡ 0))
    → sum s (λ e. d (end_a g e) + d (end_b g e)) % 2 ≡ 0
unfolding ends
even_ends g ok d s es h =
    ap (λ x. x % 2) (sum_same s (λ e. d (end_a g e) + d (end_b g e)) (λ e. below g.vertices d (end_a g e) + below g.vertices d (end_b g e)) es
    (λ e l. ap₂ ◌+◌ (sym (below_all g.vertices d (end_a g e) (ok.a_in e l))) (sym (below_all g.vertices d (end_b g e) (ok.b_in e l)))))
    ∙ ends-even g d s g.vertices h

-- ---- the cut around the vertices at potential 0

-- 1 where the potential is 0
is_zero : ℕ → ℕ
is_zero zero = 1
is_zero (suc x) = 0

-- 1 where just one of the two is 0
cut : ℕ → ℕ → ℕ
cut zero zero = 0
cut zero (suc y) = 1
cut (suc x) zero = 1
cut (suc x) (suc y) = 0

cut_odd : (x y : ℕ) → (is_zero x + is_zero y + cut x y) % 2 ≡ 0
unfolding is_zero cut
cut_odd zero zero = refl
cut_odd zero (suc y) = refl
cut_odd (suc x) zero = refl
cut_odd (suc x) (suc y) = refl

-- the potential, lowered by 1, changes along the edge by no more than the weight less the cut
cut_step : (x y w : ℕ) → x ≤ y + w → y ≤ x + w → (cut x y ≤ w) × (pred x ≤ pred y + (w - cut x y)) × (pred y ≤ pred x + (w - cut x y))
unfolding cut
cut_step zero zero w p q = omega arith
cut_step zero (suc y) w p q = omega arith
cut_step (suc x) zero w p q = omega arith
cut_step (suc x) (suc y) w p q = omega arith

regroup : (s : List ℕ) (a b c d k : ℕ → ℕ)
    → sum s (λ e. (a e + c e) + (b e + d e)) + sum s k ≡ sum s (λ e. a e + b e + k e) + sum s (λ e. c e + d e)
regroup [] a b c d k = refl
regroup (e ∷ s) a b c d k = omega (arith, regroup s a b c d k)

module _ {g : Graph} (ok : GraphInRange g) {s : List ℕ} (c : CrossingSet g s) where
  module _ (f : ℕ → ℕ) (l : (v : ℕ) → v < g.vertices → boundary_at g v ≡ 1 → f v ≡ 0)
      (r : (v : ℕ) → v < g.vertices → boundary_at g v ≡ 2 → 1 ≤ f v) where
    cut-vertex : (v : ℕ) → v < g.vertices → ((is_zero (f v) + delta (boundary_at g v) 1) % 2 ≡ 0) ⊎ (degree g s v % 2 ≡ 0)
    unfolding is_zero
    cut-vertex v h = go (boundary_at g v) refl (ok.byte v h) (f v) refl
      where
        go : (b : ℕ) → boundary_at g v ≡ b → b < 3 → (x : ℕ) → f v ≡ x → ((is_zero x + delta b 1) % 2 ≡ 0) ⊎ (degree g s v % 2 ≡ 0)
        go zero e k x q = inr (c.clean v h e)
        go (suc zero) e k zero q = inl refl
        go (suc zero) e k (suc x) q = absurd (omega (arith, l v h e))
        go (suc (suc zero)) e k zero q = absurd (omega (arith, r v h e))
        go (suc (suc zero)) e k (suc x) q = inl refl
        go (suc (suc (suc b))) e k x q = absurd (omega arith)

    -- an odd number of the set's edges, so at least one, have just one end at potential 0
    cut-met : 1 ≤ sum s (λ e. cut (f (end_a g e)) (f (end_b g e)))
    cut-met = omega (
      arith,
      c.odd,
      even_ends g ok (λ v. is_zero (f v) + delta (boundary_at g v) 1) s c.is_set.named cut-vertex,
      sum_even s (λ e. is_zero (f (end_a g e)) + is_zero (f (end_b g e)) + cut (f (end_a g e)) (f (end_b g e))) (λ e. cut_odd (f (end_a g e)) (f (end_b g e))),
      regroup s (λ e. is_zero (f (end_a g e))) (λ e. is_zero (f (end_b g e))) (λ e. delta (boundary_at g (end_a g e)) 1)
          (λ e. delta (boundary_at g (end_b g e)) 1) (λ e. cut (f (end_a g e)) (f (end_b g e))),
    )

  -- by induction on W: potential and weights lowered by 1 across the cut
  pub lower-bound : (W : ℕ) (w f : ℕ → ℕ) → Potential g w W f → W ≤ sum s w
  lower-bound zero w f p = zero-le
  lower-bound (suc W) w f p =
      let x : ℕ → ℕ = λ e. cut (f (end_a g e)) (f (end_b g e)) in
      let at : (e : ℕ) → e < edges g → _ = λ e h. cut_step (f (end_a g e)) (f (end_b g e)) (w e) (p.up e h) (p.down e h) in
      let ih : W ≤ sum s (λ e. w e - x e) = lower-bound W (λ e. w e - x e) (λ v. pred (f v)) (record {
        left = λ v h e. omega (arith, p.left v h e);
        right = λ v h e. omega (arith, p.right v h e);
        up = λ e h. (at e h).1;
        down = λ e h. (at e h).2;
      }) in
      let whole : sum s (λ e. (w e - x e) + x e) ≡ sum s w = sum_same s (λ e. (w e - x e) + x e) w c.is_set.named (λ e h. omega (arith, (at e h).0)) in
      omega (arith, sum_add s (λ e. w e - x e) x, cut-met f p.left (λ v h e. omega (arith, p.right v h e)))

-- along a walk a potential rises by no more than the walk's weight
pub rises_at_most : {g : Graph} {w : ℕ → ℕ} {W : ℕ} {f : ℕ → ℕ} {x y : ℕ} {s : List ℕ} → Potential g w W f → Walk g x s y → f y ≤ f x + sum s w
rises_at_most p stay = omega arith
rises_at_most {f = f} p (step {e = e} h (inl j) r) = omega (arith, rises_at_most p r, p.down e h, ap f j.0, ap f j.1)
rises_at_most {f = f} p (step {e = e} h (inr j) r) = omega (arith, rises_at_most p r, p.up e h, ap f j.0, ap f j.1)
