-- Every list of calls of the real functions keeps columns and tally in agreement. Assumes nothing.
use mathlib.Core.Path.{◌≡◌, refl, sym, subst}
use mathlib.Core.List.{List, [], ◌∷◌}
use Prim.Native.Nat.{ℕ, ◌≤◌}
use lib.ListN.{length}
use lib.IntN.{ℤ}
use Rattle.columns_answers.proofs.Said.{values_of}
use Rattle.std.specs.Prelude.{Result, Ok}
use Rattle.columns.specs.declared.refusal.Refusal.{Refusal}
use Rattle.engine_columns.specs.declared.EngineCounts.{EngineCounts}
use Rattle.engine_columns.specs.Records.{Engine, engine, counts}
use Rattle.engine_columns.specs.Calls.{Call, Modified}
use Rattle.engine_columns.specs.Open.{GraphColumns, open_refusal, Opened}
use Rattle.engine_tally.specs.Tally.{Tally, tally_of, lengths_of, tally_refusal, tally_step, tally_numbers}
use Rattle.engine_tally.proofs.Agreement.{Agrees, step_agrees, opened_agrees}
use Rattle.engine_columns.proofs.Refusals.{opens_of}
use Rattle.query_questions.specs.Scratch.{ScratchColumns}
use Rattle.query_crossing_answer.specs.Crossing.{FoundCrossing}
use Rattle.claims.specs.Listed.{OwnLengths, ListedCall, modifies, crosses, modifying, modifying_answers, tally_at_end, numbers}
use Rattle.claims.specs.QueriesCalled.{CrossingReturned, crossing_returned}
use Rattle.claims.specs.Called.{OpenReturned, open_returned, OpenCalled, open_called, Called, load_erasures_called, load_weights_called, reset_called, CrossingCalled, crossing_called, Calls, no_call, modified_then, crossed_then}
use Rattle.claims.proofs.Agreeing.{CrossingBy, crossing-number}

-- what a call's contract says is the step
pub step_of : (call : Call) (e : Engine) (r : Result EngineCounts Refusal) (e₁ : Engine) → Called call e r e₁ → Modified call e r e₁
step_of call e r e₁ (load_erasures_called κs a q s h) = h
step_of call e r e₁ (load_weights_called κs a q s h) = h
step_of call e r e₁ (reset_called κs a q s h) = h

found_of : (e : Engine) (r : Result ℕ Refusal) (column₀ column : List ℤ) (scratch₀ scratch : ScratchColumns) → CrossingReturned e r column₀ column scratch₀ scratch
    → FoundCrossing e r column₀ column scratch₀ scratch
found_of e r column₀ column scratch₀ scratch (crossing_returned κs a q s h) = h

pub crossing_of : (e : Engine) (o : OwnLengths) (r : Result ℕ Refusal) (column₀ column : List ℤ) → CrossingCalled e o r column₀ column
    → CrossingBy e o r column₀ column
crossing_of e o r column₀ column (crossing_called scratch₀ scratch c) =
    let h = found_of e r column₀ column scratch₀ scratch c in
    record { same = refl; answers = h.answers; weights_after = h.weights_after }

-- ---- open

pub record FreshGraph (v e : ℕ) (handed : GraphColumns) (fresh : Engine) : Type 0 where
  pub agrees : Agrees (tally_of v e handed) fresh
  pub weights_long : e ≤ length handed.weights

open_says : (v e : ℕ) (handed lent left : GraphColumns) (c : EngineCounts) (le lw : List ℕ) → Opened v e handed lent (Ok c) left
    → FreshGraph v e handed (engine c left.ends_a left.ends_b left.weights left.boundary le lw)
open_says v e handed lent left c le lw h =
    let d : open_refusal v e handed lent ≡ 0 = sym h.answers.number_is in
    let k : c ≡ counts v e 0 = values_of h.answers d in
    record {
      agrees = subst (λ (n : EngineCounts). Agrees (tally_of v e handed) (engine n left.ends_a left.ends_b left.weights left.boundary le lw)) (sym k)
          (opened_agrees v e handed lent left (Ok c) le lw h refl);
      weights_long = (opens_of v e handed lent d).from.weights;
    }

pub opened_of : (v e : ℕ) (handed lent₀ : GraphColumns) (r : Result EngineCounts Refusal) (lent : GraphColumns) → OpenReturned v e handed lent₀ r lent → Opened v e handed lent₀ r lent
opened_of v e handed lent₀ r lent (open_returned κs a q s h) = h

pub fresh_of : (v e : ℕ) (handed : GraphColumns) (fresh : Engine) → OpenCalled v e handed fresh → FreshGraph v e handed fresh
fresh_of v e handed fresh (open_called {lent₀ = lent₀} {lent = lent} c le lw o) = open_says v e handed lent₀ lent c le lw (opened_of v e handed lent₀ (Ok c) lent o)

-- ---- the list

pub runs : (e : Engine) (cs : List ListedCall) (ns : List ℕ) (e₂ : Engine) (t : Tally) → Agrees t e → Calls e cs ns e₂
    → (ns ≡ numbers cs t) × Agrees (tally_at_end cs t) e₂
runs e cs ns e₂ t a no_call = (refl, a)
runs e cs ns e₂ t a (modified_then {e₁ = e₁} {cs = ds} {ns = ms} call r s rest) =
    let (n, a₁) = step_agrees call t e e₁ r a (step_of call e r e₁ s) in
    let (m, a₂) = runs e₁ ds ms e₂ (tally_step (record { call = call; lent = lengths_of e }) t) a₁ rest in
    ((λ i. n i ∷ m i), a₂)
runs e cs ns e₂ t a (crossed_then {cs = ds} {ns = ms} o r column₀ column s rest) =
    let n = crossing-number t e a o r column₀ column (crossing_of e o r column₀ column s) in
    let (m, a₂) = runs e ds ms e₂ t a rest in
    ((λ i. n i ∷ m i), a₂)

-- the answers to loads and resets
pub modifying-numbers : (cs : List ListedCall) (t : Tally) → tally_numbers (modifying cs) t ≡ modifying_answers cs (numbers cs t)
modifying-numbers [] t = refl
modifying-numbers (modifies f ∷ cs) t = λ i. tally_refusal f.call f.lent t ∷ modifying-numbers cs (tally_step f t) i
modifying-numbers (crosses k o ∷ cs) t = modifying-numbers cs t
