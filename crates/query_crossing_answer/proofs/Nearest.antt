-- The least weight so far. Assumes nothing.
use mathlib.Core.Path.{◌≡◌, refl, ap, ◌∙◌}
use mathlib.Core.Bool.{Bool, true, false, cond}
use mathlib.Core.Option as maybe
use Prim.Native.Nat.{ℕ, suc, min}
use native.Mathlib.Omega.{arith}
use native.Mathlib.Decide.{dec_lt}
use borrow.Author.Tests.{lt-ltb, le-ltb}
use Rattle.std.specs.Prelude.{Option, Some, None, ◌+◌}
use Rattle.engine_walks.specs.Settling.{State, weight_at, lesser, first_least}
use Rattle.engine_walks.specs.Answers.{weight_of}
use Rattle.query_crossing_answer.specs.Least.{if_any, lesser_weight}

module _ (s : State) (test : ℕ → Bool) where
  abbrev pub best : ℕ → Option ℕ
  best v = if_any (weight_of s (first_least test (weight_at s) v))

  pub best_none : best 0 ≡ None
  unfolding first_least
  best_none = refl

  lesser-weight : (v : ℕ) (p : maybe.Option ℕ) → lesser_weight (weight_at s v) (if_any (weight_of s p)) ≡ if_any (weight_of s (lesser (weight_at s) v p))
  lesser-weight v maybe.none = refl
  lesser-weight v (maybe.some u) = elim (dec_lt (weight_at s v) (weight_at s u)) [
    | yes h ↦ rw (lt-ltb (weight_at s v) (weight_at s u) h) (ap Some (let e : min (weight_at s v) (weight_at s u) ≡ weight_at s v = omega arith in e))
    | no h ↦ rw (le-ltb (weight_at s v) (weight_at s u) (omega arith)) (ap Some (let e : min (weight_at s v) (weight_at s u) ≡ weight_at s u = omega arith in e))
  ]

  pub best-next : (v : ℕ) → cond (test v) (lesser_weight (weight_at s v) (best v)) (best v) ≡ best (v + 1)
  unfolding first_least
  best-next v = go (test v) (first_least test (weight_at s) v) ∙ ap (λ n. if_any (weight_of s (first_least test (weight_at s) n))) (let e : suc v ≡ v + 1 = omega arith in e)
    where
      go : (b : Bool) (p : maybe.Option ℕ) → cond b (lesser_weight (weight_at s v) (if_any (weight_of s p))) (if_any (weight_of s p)) ≡ if_any (weight_of s (cond b (lesser (weight_at s) v p) p))
      go true p = lesser-weight v p
      go false p = refl
