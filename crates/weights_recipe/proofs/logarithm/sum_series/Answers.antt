-- `weights_recipe::logarithm::sum_series` meets its contract. Invariant: what is left of the recursion from here is the whole recursion. Assumes nothing.
use Rattle.std.proofs.Common.{◌≡◌, ℕ, zero, suc, ◌+◌, ◌-◌, ◌*◌, ◌<◌, ◌≤◌, pos, sym, refl, ◌∙◌, lt_irrefl, arith}
use lib.Ieee.{Float, binary64, add, mul, div, of_int}
use Rattle.columns.specs.Places.{one}
use Rattle.weights_recipe.specs.Logarithm.{series}
use Rattle.weights_recipe.proofs.logarithm.sum_series.Goals as goal

step : (n : ℕ) (z h : Float) → 0 < n
    → series (n - 1) z (add binary64 (mul binary64 h z) (div binary64 one (of_int binary64 (pos (2 * (n - 1) + 1))))) ≡ series n z h
unfolding series
step zero z h p = absurd (lt_irrefl 0 p)
step (suc n) z h p = let e : suc n - 1 ≡ n = omega arith in rw e

end : (n : ℕ) (z h : Float) → n ≤ 0 → series n z h ≡ h
unfolding series
end zero z h p = refl
end (suc n) z h p = absurd (omega arith)

pub loop-n-preserved : goal.loop-n-preserved
loop-n-preserved c = step c.loop-n.n _ _ c.loop-n-test.true ∙ c.loop-n.invariant

pub returns : goal.returns
returns c = sym (end _ _ _ c.loop-n-test.false) ∙ c.loop-n.invariant
