-- `query_settling::list_start` meets its contract: list 0 starts at 0, and list v where list v - 1 ends. Assumes nothing.
use mathlib.Core.Path.{◌≡◌, refl, sym, ap, ◌∙◌}
use Prim.Native.Nat.{ℕ, zero, suc, ◌-◌}
use native.Mathlib.Omega.{arith}
use mathlib.Core.List.{List}
use lib.ListN.{get_or}
use Rattle.query_relaxing.specs.Ready.{start_in}
use Rattle.query_settling.proofs.list_start.Goals as goal

zero_start : (ends : List ℕ) (v : ℕ) → v ≡ 0 → 0 ≡ start_in ends v
zero_start ends v e = ap (start_in ends) (sym e)

next_start : (ends : List ℕ) (v : ℕ) → (v ≡ 0 → ⊥) → get_or ends (v - 1) 0 ≡ start_in ends v
next_start ends zero f = absurd (f refl)
next_start ends (suc v) f = let e : suc v - 1 ≡ v = omega arith in ap (λ k. get_or ends k 0) e

pub returns-then-v-eq0 : goal.returns-then-v-eq0
returns-then-v-eq0 c = let s = c.args in zero_start s.list_ends.now s.v c.if-v-eq0.true

pub bounds-list_ends-v : goal.bounds-list_ends-v
bounds-list_ends-v c = omega (arith, c.requires)

pub returns : goal.returns
returns c = let s = c.args in next_start s.list_ends.now s.v c.if-v-eq0.false
