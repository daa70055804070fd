-- What a load or a reset answers and what it leaves in every lent column: the relation that the contracts in engine_calls cite.
use Rattle.std.specs.Prelude.{ℕ, ◌≡◌, cond, List, length, eqb, Result}
use Rattle.columns.specs.Limits.{weight_limit}
use Rattle.columns.specs.Questions.{ask, all_below, all_within}
use Rattle.columns.specs.declared.refusal.Refusal.{Refusal}
use Rattle.columns_answers.specs.Said.{said, Answered}
use Rattle.engine_columns.specs.declared.EngineCounts.{EngineCounts}
use Rattle.engine_columns.specs.Records.{Engine, engine, counts, no_counts}
use Rattle.engine_log.specs.Load.{loaded, earlier, named, undone, erased, given}
use Rattle.engine_columns.specs.Questions.{engine_long, engine_sound}

-- Engine, Load and Reset: a load or a reset, with its arguments.
pub data Call : Type 0 where
  load_erasures : List ℕ → Call
  load_weights : List ℕ → List ℕ → Call
  reset : Call

-- Questions at the door, 6, 7, 12, 13 and 15, of a load or a reset: the number of the first that is not met, or 0.
abbrev pub engine_refusal : Call → Engine → ℕ
engine_refusal (load_erasures es) e =
    ask (engine_long (length es) e) 6
    (ask (engine_sound e) 7
    (ask (eqb e.counts.entries 0) 12
    (ask (all_below e.counts.edges es) 13 0)))
engine_refusal (load_weights es xs) e =
    ask (eqb (length es) (length xs)) 6
    (ask (engine_long (length es) e) 6
    (ask (engine_sound e) 7
    (ask (eqb e.counts.entries 0) 12
    (ask (all_below e.counts.edges es) 13
    (ask (all_within weight_limit xs) 15 0)))))
engine_refusal reset e = ask (engine_long 0 e) 6 (ask (engine_sound e) 7 0)

-- Engine, Load, sentences 2 to 4: the columns after an accepted load; entry k sets the edge named there to x k.
abbrev pub loaded_by : List ℕ → (ℕ → ℕ) → Engine → Engine
loaded_by es x e =
    engine (counts e.counts.vertices e.counts.edges (length es)) e.ends_a e.ends_b
    (loaded es x (length es) e.weights) e.boundary
    (named es (length es) e.log_edges) (earlier es x (length es) e.weights e.log_weights)

-- Engine, Load and Reset: the columns after an accepted call.
abbrev pub changed : Call → Engine → Engine
changed (load_erasures es) e = loaded_by es erased e
changed (load_weights es xs) e = loaded_by es (given xs) e
changed reset e =
    engine (counts e.counts.vertices e.counts.edges 0) e.ends_a e.ends_b
    (undone e.log_edges e.log_weights e.counts.entries e.weights) e.boundary e.log_edges e.log_weights

-- Engine, Load and Reset; Questions at the door, sentence 2: the answer, and every column left, refusals included.
pub record Modified (call : Call) (e₀ : Engine) (answer : Result EngineCounts Refusal) (e : Engine) : Type 0 where
  pub answers : Answered (said no_counts answer) (engine_refusal call e₀) (changed call e₀).counts no_counts
  pub engine_after : e ≡ cond (eqb (engine_refusal call e₀) 0) (changed call e₀) e₀
