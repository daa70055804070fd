-- `codes_weights::weigh::weigh_edges` meets its contract. Invariant: the first i edges have what they get. Assumes nothing.
use mathlib.Core.Path.{◌≡◌, refl, ap, ◌∙◌}
use mathlib.Core.Bool.{Bool, true, false, cond}
use mathlib.Core.List.{List}
use Prim.Native.Nat.{ℕ, ◌+◌}
use native.Mathlib.Omega.{arith}
use lib.ListN.{set}
use lib.Seq.{sets}
use Rattle.columns.specs.Lists.{each}
use Rattle.columns.proofs.Counting.{store-each}
use Rattle.codes_weights.specs.declared.Weighed.{Weighed}
use Rattle.codes_weights.specs.Steps.{diagonal_at}
use Rattle.codes_weights.proofs.weigh.weigh_edges.Goals as goal

-- the parts of the one that is picked
p_of : (b : Bool) (x y : Weighed) → (cond b x y).p ≡ cond b x.p y.p
p_of true x y = refl
p_of false x y = refl

half_of : (b : Bool) (x y : Weighed) → (cond b x y).half ≡ cond b x.half y.half
half_of true x y = refl
half_of false x y = refl

-- one store more
stored : {A : Type 0} (l₀ : List A) (f : ℕ → A) (i : ℕ) {l l' : List A} {x : A} → l ≡ sets l₀ 0 (each i f) → l' ≡ set l i x → x ≡ f i → l' ≡ sets l₀ 0 (each (i + 1) f)
stored l₀ f i e s v = s ∙ (λ k. set (e k) i (v k)) ∙ store-each l₀ i f

pub loop-i-init : goal.loop-i-init
unfolding each
loop-i-init c = record { in_p = refl; in_h = refl }

pub loop-i-preserved : goal.loop-i-preserved
loop-i-preserved c =
    let s = c.args in
    let l = c.loop-i in
    let w = c.store_weighed.ensures in
    let picks = c.picked.ensures ∙ ap (λ (b : Bool). cond b s.other s.straight) c.diagonal_at-diagonal.ensures in
    let d : ℕ → Bool = diagonal_at s.ends_a.now s.ends_b.now s.pos_i.now s.pos_j.now s.pos_t.now in
    record {
      in_p = stored s.p.now (λ k. cond (d k) s.other.p s.straight.p) l.i l.invariant.in_p w.0 (ap (λ (x : Weighed). x.p) picks ∙ p_of (d l.i) s.other s.straight);
      in_h = stored s.half_weight.now (λ k. cond (d k) s.other.half s.straight.half) l.i l.invariant.in_h w.1 (ap (λ (x : Weighed). x.half) picks ∙ half_of (d l.i) s.other s.straight);
    }

pub returns : goal.returns
returns c =
    let s = c.args in
    let l = c.loop-i in
    let d : ℕ → Bool = diagonal_at s.ends_a.now s.ends_b.now s.pos_i.now s.pos_j.now s.pos_t.now in
    let all : l.i ≡ s.n = omega arith in
    record {
      in_p = l.invariant.in_p ∙ ap (λ (m : ℕ). sets s.p.now 0 (each m (λ k. cond (d k) s.other.p s.straight.p))) all;
      in_h = l.invariant.in_h ∙ ap (λ (m : ℕ). sets s.half_weight.now 0 (each m (λ k. cond (d k) s.other.half s.straight.half))) all;
    }
