-- The tally's weight of an edge is the last one named. Assumes nothing.
use mathlib.Core.Path.{◌≡◌, refl, sym, ap, ◌∙◌, subst}
use mathlib.Core.Bool.{cond}
use mathlib.Core.List.{List, [], ◌∷◌}
use Prim.Native.Nat.{ℕ, zero, suc, ◌<◌}
use native.Mathlib.Decide.{ℕ_discrete}
use native.Mathlib.Omega.{arith}
use borrow.Author.Tests.{eqb-true, eq-eqb, ne_eqb}
use lib.ListN.{length, get_or, set, length-set}
use lib.Seq.{get_or-set_same, get_or-set_other, get_or-take, length-take-le}
use lib.Dec.{eqb}
use Rattle.columns.specs.Limits.{weight_limit}
use Rattle.columns.specs.Questions.{ask, all_below, all_within}
use Rattle.engine_log.specs.Load.{loaded, erased, given}
use Rattle.engine_columns.specs.Calls.{Call, load_erasures, load_weights, reset}
use Rattle.engine_tally.specs.Tally.{Tally, Lengths, Fed, tally_of, tally_long, tally_refusal, tallied, tally_step, tally_after, tally_numbers}
use Rattle.engine_tally.specs.Readers.{LastSet, set_to, as_opened, not_named, last_of, set_by_entry, set_by_erasures, set_by_weights, set_by_accepted, set_by_call, set_by_calls, weight_by, WeighsLastNamed}
use Rattle.engine_log.proofs.Loads.{loaded-length}
use Rattle.columns.proofs.Refusals.{met}

-- the weight after a word, from the opening weight o and the weight c before it
abbrev from : LastSet → (o c : ℕ) → ℕ
from (set_to x) o c = x
from as_opened o c = o
from not_named o c = c

from_last : (a b : LastSet) (o c : ℕ) → from a o (from b o c) ≡ from (last_of a b) o c
from_last (set_to x) b o c = refl
from_last as_opened b o c = refl
from_last not_named b o c = refl

from_opening : (a : LastSet) (o : ℕ) → from a o o ≡ weight_by a o
from_opening (set_to x) o = refl
from_opening as_opened o = refl
from_opening not_named o = refl

-- a load, its first entry apart
loaded_first : (e : ℕ) (es : List ℕ) (x : ℕ → ℕ) (n : ℕ) (w : List ℕ) → loaded (e ∷ es) x (suc n) w ≡ loaded es (λ i. x (suc i)) n (set w e (x 0))
loaded_first e es x zero w = refl
loaded_first e es x (suc n) w = ap (λ (l : List ℕ). set l (get_or es n 0) (x (suc n))) (loaded_first e es x n w)

module _ (k o : ℕ) where
  entry_set : (e x : ℕ) (w : List ℕ) → k < length w → get_or (set w e x) k 0 ≡ from (set_by_entry e x k) o (get_or w k 0)
  entry_set e x w h = elim (ℕ_discrete e k) [
    | yes q ↦ ap (λ i. get_or (set w i x) k 0) q ∙ get_or-set_same w k x 0 h ∙ ap (λ b. from (cond b (set_to x) not_named) o (get_or w k 0)) (sym (eq-eqb e k q))
    | no q ↦ get_or-set_other w e k x 0 (λ p. q (sym p)) ∙ ap (λ b. from (cond b (set_to x) not_named) o (get_or w k 0)) (sym (ne_eqb e k q))
  ]

  erasures-law : (es w : List ℕ) → k < length w → get_or (loaded es erased (length es) w) k 0 ≡ from (set_by_erasures es k) o (get_or w k 0)
  erasures-law [] w h = refl
  erasures-law (e ∷ es) w h =
      ap (λ (l : List ℕ). get_or l k 0) (loaded_first e es erased (length es) w)
      ∙ erasures-law es (set w e 0) (omega (arith, length-set w e 0, h))
      ∙ ap (from (set_by_erasures es k) o) (entry_set e 0 w h)
      ∙ from_last (set_by_erasures es k) (set_by_entry e 0 k) o (get_or w k 0)

  weights-law : (es xs w : List ℕ) → length es ≡ length xs → k < length w → get_or (loaded es (given xs) (length es) w) k 0 ≡ from (set_by_weights es xs k) o (get_or w k 0)
  weights-law [] xs w q h = refl
  weights-law (e ∷ es) [] w q h = absurd (omega (arith, q))
  weights-law (e ∷ es) (x ∷ xs) w q h =
      ap (λ (l : List ℕ). get_or l k 0) (loaded_first e es (given (x ∷ xs)) (length es) w)
      ∙ weights-law es xs (set w e x) (omega (arith, q)) (omega (arith, length-set w e x, h))
      ∙ ap (from (set_by_weights es xs k) o) (entry_set e x w h)
      ∙ from_last (set_by_weights es xs k) (set_by_entry e x k) o (get_or w k 0)

-- a tally that holds edge k
record Holds (k : ℕ) (t : Tally) : Type 0 where
  in_opening : k < length t.opening
  in_weights : k < length t.weights

module _ (k : ℕ) where
  -- an accepted call
  tallied-law : (call : Call) (l : Lengths) (t : Tally) → tally_refusal call l t ≡ 0 → Holds k t
      → get_or (tallied call t).weights k 0 ≡ from (set_by_accepted call k) (get_or t.opening k 0) (get_or t.weights k 0)
  tallied-law (load_erasures es) l t z h = erasures-law k (get_or t.opening k 0) es t.weights h.in_weights
  tallied-law (load_weights es xs) l t z h =
      let q = met (eqb (length es) (length xs)) 5
      (ask (tally_long (length es) l t.counts) 6 (ask (eqb t.counts.entries 0) 12 (ask (all_below t.counts.edges es) 13 (ask (all_within weight_limit xs) 15 0)))) z in
      weights-law k (get_or t.opening k 0) es xs t.weights (eqb-true (length es) (length xs) q) h.in_weights
  tallied-law reset l t z h = refl

  tallied-holds : (call : Call) (t : Tally) → Holds k t → Holds k (tallied call t)
  tallied-holds (load_erasures es) t h = record { in_opening = h.in_opening; in_weights = omega (arith, loaded-length es erased (length es) t.weights, h.in_weights) }
  tallied-holds (load_weights es xs) t h = record { in_opening = h.in_opening; in_weights = omega (arith, loaded-length es (given xs) (length es) t.weights, h.in_weights) }
  tallied-holds reset t h = record { in_opening = h.in_opening; in_weights = h.in_opening }

  tallied-opening : (call : Call) (t : Tally) → (tallied call t).opening ≡ t.opening
  tallied-opening (load_erasures es) t = refl
  tallied-opening (load_weights es xs) t = refl
  tallied-opening reset t = refl

  -- one call, accepted or refused
  record OneCall (f : Fed) (t after : Tally) (number : ℕ) : Type 0 where
    holds : Holds k after
    opening-same : after.opening ≡ t.opening
    weight_is : get_or after.weights k 0 ≡ from (set_by_call number f.call k) (get_or t.opening k 0) (get_or t.weights k 0)

  one-call : (f : Fed) (t : Tally) → Holds k t → (n : ℕ) → tally_refusal f.call f.lent t ≡ n → OneCall f t (cond (eqb n 0) (tallied f.call t) t) n
  one-call f t h zero z = record { holds = tallied-holds f.call t h; opening-same = tallied-opening f.call t; weight_is = tallied-law f.call f.lent t z h }
  one-call f t h (suc n) z =
      subst (λ b. OneCall f t (cond b (tallied f.call t) t) (suc n)) (sym (ne_eqb (suc n) 0 (λ e. omega (arith, e)))) (record { holds = h; opening-same = refl; weight_is = refl })

  calls-law : (calls : List Fed) (t : Tally) → Holds k t
      → get_or (tally_after calls t).weights k 0 ≡ from (set_by_calls calls (tally_numbers calls t) k) (get_or t.opening k 0) (get_or t.weights k 0)
  calls-law [] t h = refl
  calls-law (f ∷ fs) t h =
      let n = tally_refusal f.call f.lent t in
      let s = one-call f t h n refl in
      let t' = tally_step f t in
      let said = set_by_calls fs (tally_numbers fs t') k in
      calls-law fs t' s.holds
      ∙ (λ i. from said (get_or (s.opening-same i) k 0) (s.weight_is i))
      ∙ from_last said (set_by_call n f.call k) (get_or t.opening k 0) (get_or t.weights k 0)

pub weighs_last_named : WeighsLastNamed
weighs_last_named v e handed long calls k h =
    let l = length-take-le e handed.weights long in
    let w = get_or-take e handed.weights k 0 h in
    let t = tally_of v e handed in
    calls-law k calls t (record { in_opening = omega (arith, l, h); in_weights = omega (arith, l, h) })
    ∙ from_opening (set_by_calls calls (tally_numbers calls t) k) (get_or t.opening k 0)
    ∙ ap (weight_by (set_by_calls calls (tally_numbers calls t) k)) w
