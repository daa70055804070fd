-- The engine graph of document 01's "Records": the columns that a caller lends, with their counts.
use Rattle.std.specs.Prelude.{ℕ, List, [], Result, Ok, Err}
use Rattle.columns.specs.declared.refusal.Refusal.{Refusal}
use Rattle.engine_columns.specs.declared.EngineCounts.{EngineCounts}

-- Records, on engine graphs: ends, a weight for each edge, boundary bytes and a log, with
-- their counts. Every column is whole, as it is lent: places past a count are in it.
pub record Engine : Type 0 where
  pub counts : EngineCounts
  pub ends_a : List ℕ
  pub ends_b : List ℕ
  pub weights : List ℕ
  pub boundary : List ℕ
  pub log_edges : List ℕ
  pub log_weights : List ℕ

-- Records, on engine graphs: the counts and the columns together.
abbrev pub engine : EngineCounts → List ℕ → List ℕ → List ℕ → List ℕ → List ℕ → List ℕ → Engine
engine c a b w m e l =
    record { counts = c; ends_a = a; ends_b = b; weights = w; boundary = m; log_edges = e; log_weights = l }

-- Records, on engine graphs: likewise, of columns lent or left by reference.
abbrev pub engine_in : EngineCounts → (a b w m e l : List ℕ) → Engine
engine_in c a b w m e l = engine c a b w m e l

-- Records, on engine graphs: likewise, where no log is lent.
abbrev pub engine_without_log : EngineCounts → (a b w m : List ℕ) → Engine
engine_without_log c a b w m = engine c a b w m [] []

-- Records, on engine graphs: the numbers of vertices, edges and log entries together.
abbrev pub counts : ℕ → ℕ → ℕ → EngineCounts
counts v e n = record { vertices = v; edges = e; entries = n }

-- Questions at the door, sentence 2: the counts that a refusal reports, all 0.
abbrev pub no_counts : EngineCounts
no_counts = counts 0 0 0

-- Engine, Tally, sentence 2: the counts after an answer, which the next call is lent: an accepted call hands them back, a refused one leaves them.
abbrev pub kept : EngineCounts → Result EngineCounts Refusal → EngineCounts
kept c (Ok k) = k
kept c (Err r) = c
