-- `access_vertices::weights::store_weights` meets its contract. Invariant: the weights of the first k edges are stored. Assumes nothing.
use mathlib.Core.Path.{◌≡◌, refl, sym, ap, ◌∙◌}
use Prim.Native.Nat.{ℕ, ◌*◌}
use native.Mathlib.Omega.{arith}
use lib.ListN.{get_or, set}
use lib.Seq.{sets}
use Rattle.columns.specs.Lists.{each, over}
use Rattle.columns.proofs.Columns.{sets_more, sets_over}
use Rattle.columns.proofs.Counting.{each_more, length-each}
use Rattle.access_vertices.specs.Weights.{weights}
use Rattle.access_vertices.proofs.weights.store_weights.Goals as goal

pub loop-k-init : goal.loop-k-init
unfolding weights each
loop-k-init c = refl

pub loop-k-preserved : goal.loop-k-preserved
unfolding weights
loop-k-preserved c =
    let s = c.args in
    let l = c.loop-k in
    let f : ℕ → ℕ = λ k. 2 * get_or s.half_weight.now k 0 in
    ap (λ r. set r l.k (f l.k)) l.invariant ∙ sym (sets_more s.weight.now (each l.k f) l.k (f l.k) (length-each l.k f)) ∙ ap (sets s.weight.now 0) (sym (each_more l.k f))

pub returns : goal.returns
unfolding weights
returns c =
    let s = c.args in
    let l = c.loop-k in
    let f : ℕ → ℕ = λ k. 2 * get_or s.half_weight.now k 0 in
    let all : l.k ≡ s.n = omega arith in
    l.invariant ∙ sets_over s.weight.now (each l.k f) (omega (arith, length-each l.k f, c.requires.n_in_bounds)) ∙ ap (λ (n : ℕ). over (each n f) s.weight.now) all
