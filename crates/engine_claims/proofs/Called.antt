-- What loads and resets leave, from what their callers learn. Assumes nothing.
use mathlib.Core.Path.{◌≡◌, refl, sym, ap, ◌∙◌, subst}
use mathlib.Core.Bool.{cond}
use mathlib.Core.List.{List}
use Rattle.std.specs.Prelude.{Ok}
use Prim.Native.Nat.{ℕ}
use native.Mathlib.Omega.{arith}
use lib.ListN.{length, get_or}
use lib.Dec.{eqb}
use Rattle.columns.specs.Questions.{ask, all_within}
use Rattle.columns.specs.Limits.{weight_limit}
use Rattle.columns_answers.proofs.Said.{zero_of}
use Rattle.engine_log.specs.Load.{loaded, earlier, named, undone, erased, given}
use Rattle.engine_log.proofs.Loads.{named_at, earlier_at, undo_load}
use Rattle.engine_columns.specs.declared.EngineCounts.{EngineCounts}
use Rattle.engine_columns.specs.Records.{Engine, counts}
use Rattle.engine_columns.specs.Calls.{Call, load_erasures, load_weights, reset, engine_refusal, changed, loaded_by, Modified}
use Rattle.engine_columns.proofs.Refusals.{Loads, loads_of, named_of, weighed_of_lem, reset-long, reset-named}
use Rattle.engine_claims.specs.LogCalled.{LoadAccepted, erasures_accepted, weights_accepted, ResetAccepted, reset_accepted}
use Rattle.engine_claims.specs.Log.{LastWins, LoadLeaves, ResetLeaves, LoadsAndResets}
use Rattle.engine_claims.proofs.Places.{last-wins, named_past, earlier_past, first-wins, load_past, back_past}

-- an accepted call leaves what it is defined to change
changed_by : (call : Call) (e₀ e : Engine) (c : EngineCounts) → Modified call e₀ (Ok c) e → e ≡ changed call e₀
changed_by call e₀ e c m = m.engine_after ∙ ap (λ (n : ℕ). cond (eqb n 0) (changed call e₀) e₀) (zero_of m.answers)

-- ---- loads

module _ (es : List ℕ) (x : ℕ → ℕ) (e₀ : Engine) (rest : ℕ) (l : Loads es e₀ rest) where
  leaves : LoadLeaves es x e₀ (loaded_by es x e₀)
  leaves =
      let n = length es in
      let w = e₀.weights in
      let below = named_of es e₀ rest l in
      record {
        log_was_empty = l.empty;
        counts_after = refl;
        weighs = λ k h. last-wins es x w k (omega (arith, l.long.columns.weights)) n;
        logs_edge = λ i h. named_at es n e₀.log_edges i h (omega (arith, l.long.log_edges));
        logs_earlier = λ i h.
            subst (LastWins i es x (get_or es i 0) (get_or w (get_or es i 0) 0)) (sym (earlier_at es x n w e₀.log_weights i h (omega (arith, l.long.log_weights))))
            (last-wins es x w (get_or es i 0) (omega (arith, l.long.columns.weights, below i h)) i);
        past_edges = λ k h. load_past es x w n e₀.counts.edges k below h;
        past_entries = λ i h. (named_past es e₀.log_edges n i h, earlier_past es x w e₀.log_weights n i h);
      }

  undo : undone (named es (length es) e₀.log_edges) (earlier es x (length es) e₀.weights e₀.log_weights) (length es) (loaded es x (length es) e₀.weights) ≡ e₀.weights
  undo = undo_load es x (length es) e₀.weights e₀.log_edges e₀.log_weights (omega (arith, l.long.log_edges)) (omega (arith, l.long.log_weights))

-- what an accepted load is: the list's questions met, and the columns that it is defined to leave
record LoadIs (es : List ℕ) (x : ℕ → ℕ) (e₀ e : Engine) : Type 0 where
  pub rest : ℕ
  pub met : Loads es e₀ rest
  pub left_is : e ≡ loaded_by es x e₀

load_is : {es : List ℕ} {x : ℕ → ℕ} {e₀ e : Engine} → LoadAccepted es x e₀ e → LoadIs es x e₀ e
load_is (erasures_accepted κs a c s h) = erasures-is _ _ _ c h
  where
    erasures-is : (es : List ℕ) (e₀ e : Engine) (c : EngineCounts) → Modified (load_erasures es) e₀ (Ok c) e → LoadIs es erased e₀ e
    erasures-is es e₀ e c m = record { rest = 0; met = loads_of es e₀ 0 (zero_of m.answers); left_is = changed_by (load_erasures es) e₀ e c m }
load_is (weights_accepted κs a c s h) = weights-is _ _ _ _ c h
  where
    weights-is : (es xs : List ℕ) (e₀ e : Engine) (c : EngineCounts) → Modified (load_weights es xs) e₀ (Ok c) e → LoadIs es (given xs) e₀ e
    weights-is es xs e₀ e c m = record {
      rest = ask (all_within weight_limit xs) 15 0;
      met = (weighed_of_lem es xs e₀ (zero_of m.answers)).loads;
      left_is = changed_by (load_weights es xs) e₀ e c m;
    }

-- ---- resets

record ResetIs (e₀ e : Engine) : Type 0 where
  pub met : engine_refusal reset e₀ ≡ 0
  pub left_is : e ≡ changed reset e₀

reset_is : {e₀ e : Engine} → ResetAccepted e₀ e → ResetIs e₀ e
reset_is (reset_accepted κs a c s h) = go _ _ c h
  where
    go : (e₀ e : Engine) (c : EngineCounts) → Modified reset e₀ (Ok c) e → ResetIs e₀ e
    go e₀ e c m = record { met = zero_of m.answers; left_is = changed_by reset e₀ e c m }

-- an empty log
nothing_undone : (e₀ : Engine) → e₀.counts.entries ≡ 0 → changed reset e₀ ≡ e₀
nothing_undone e₀ z = let none : ◌≡◌ {A = ℕ} 0 e₀.counts.entries = sym z in λ i. record {
  counts = counts e₀.counts.vertices e₀.counts.edges (none i);
  ends_a = e₀.ends_a;
  ends_b = e₀.ends_b;
  weights = undone e₀.log_edges e₀.log_weights (z i) e₀.weights;
  boundary = e₀.boundary;
  log_edges = e₀.log_edges;
  log_weights = e₀.log_weights;
}

back : (e₀ : Engine) → engine_refusal reset e₀ ≡ 0 → ResetLeaves e₀ (changed reset e₀)
back e₀ z = record {
  counts_after = refl;
  weighs = λ k h. first-wins e₀.log_edges e₀.log_weights k e₀.counts.entries e₀.weights (omega (arith, (reset-long e₀ z).columns.weights));
  empty_log = nothing_undone e₀;
  past_edges = λ k h. back_past e₀.log_edges e₀.log_weights e₀.weights e₀.counts.entries e₀.counts.edges k (reset-named e₀ z) h;
}

pub loads_and_resets : LoadsAndResets
loads_and_resets = record {
  load = λ es x e₀ e c. let l = load_is c in subst (LoadLeaves es x e₀) (sym l.left_is) (leaves es x e₀ l.rest l.met);
  reset = λ e₀ e c. let r = reset_is c in subst (ResetLeaves e₀) (sym r.left_is) (back e₀ r.met);
  load_then_reset = λ es x e₀ e₁ e₂ c r.
      let l = load_is c in
      let e₂-is : e₂ ≡ changed reset (loaded_by es x e₀) = (reset_is r).left_is ∙ ap (changed reset) l.left_is in
      let empty : ◌≡◌ {A = ℕ} 0 e₀.counts.entries = sym l.met.empty in (
        ap (λ (e : Engine). e.weights) e₂-is ∙ undo es x e₀ l.rest l.met,
        ap (λ (e : Engine). e.counts) e₂-is ∙ ap (counts e₀.counts.vertices e₀.counts.edges) empty,
      );
}
