-- What is asked after questions 2 to 5. Assumes nothing.
use mathlib.Core.Path.{◌≡◌, refl, sym, ap, ◌∙◌}
use mathlib.Core.Bool.{Bool, true, false}
use Prim.Native.Nat.{ℕ, suc, ◌≤◌}
use native.Mathlib.Omega.{arith}
use lib.Dec.{leb}
use Rattle.columns.specs.Limits.{vertex_limit}
use Rattle.columns.specs.Questions.{ask}
use Rattle.codes_layers.specs.Counts.{vertex_num}
use Rattle.codes_layers.specs.Accepts.{kind_known, distance_sound, rounds_sound, code_refusal}
use Rattle.codes_layers.proofs.Accepted.{distance_says, rounds_says}

-- two questions that are met, or the first that is not
both_met : (a b : Bool) (m n x y : ℕ) → (a ≡ true → b ≡ true → x ≡ y) → ask a m (ask b n x) ≡ ask a m (ask b n y)
both_met true true m n x y h = h refl refl
both_met true false m n x y h = refl
both_met false b m n x y h = refl

-- what is asked next matters only where questions 3 and 4 are met
pub next_same : (kind d rounds x y : ℕ) → (3 ≤ d → d ≤ 4095 → rounds ≤ 4095 → x ≡ y) → code_refusal kind d rounds x ≡ code_refusal kind d rounds y
unfolding code_refusal
next_same kind d rounds x y f =
    ap (λ (q : ℕ). ask (kind_known kind) 2 q)
    (both_met (distance_sound d) (rounds_sound kind rounds) 3 4 _ _ (λ p q.
    let s = distance_says d p in
    ap (λ (n : ℕ). ask (leb (vertex_num kind d rounds) vertex_limit) 5 n) (f s.three s.few (rounds_says kind rounds q).0)))
