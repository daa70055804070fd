-- What the private functions of this crate promise one another. No public contract cites it.
use Rattle.std.specs.Prelude.{ℕ, ◌+◌, ◌≤◌, ◌≡◌, true, List, set, ℤ}
use Rattle.std.proofs.lemmas.List.Edits.{sets}
use Rattle.columns.specs.Lists.{each}
use Rattle.engine_columns.specs.Records.{Engine}
use Rattle.engine_columns.specs.Questions.{engine_long, engine_sound}
use Rattle.query_questions.specs.Queries.{graph_in, weights_in}
use Rattle.prebuilt_calls.specs.Boundaries.{boundary_weight, boundary_vertex}
use Rattle.query_questions.specs.Scratch.{ScratchColumns, ScratchLengths, scratch_long}
use Rattle.query_tables.specs.Tables.{TableInside}

-- Questions at the door, 6 and 7: an engine graph that they accept, with room in every column lent.
pub record Fillable (e : Engine) (weights vertices least before : ℕ) (scratch : ScratchLengths) : Type 0 where
  pub long : engine_long 0 e ≡ true
  pub is_sound_holds : engine_sound e ≡ true
  pub weights_fit : e.counts.vertices ≤ weights
  pub vertices_fit : e.counts.vertices ≤ vertices
  pub least_fits : e.counts.vertices ≤ least
  pub before_fits : e.counts.vertices ≤ before
  pub scratch_fits_holds : scratch_long e.counts scratch ≡ true

-- Engine, Table: after the tables from the vertices below n, one after another: what the last one leaves, and where there is none the columns as they were.
pub record TablesInside (e : Engine) (n : ℕ) (least₀ least : List ℤ) (before₀ before : List ℕ) (scratch₀ scratch : ScratchColumns) : Type 0 where
  pub none : n ≡ 0 → (least ≡ least₀) × (before ≡ before₀) × (scratch ≡ scratch₀)
  pub last : (v : ℕ) → n ≡ v + 1 → TableInside 0 e v least₀ least before₀ before scratch₀ scratch

-- complete_graph.rs, `PrebuiltCompleteGraph`: after the boundary of v is filled in: both columns, and what the table from v leaves.
pub record OneFilled (e : Engine) (v : ℕ) (weights₀ weights : List ℤ) (vertices₀ vertices : List ℕ) (least₀ least : List ℤ) (before₀ before : List ℕ) (scratch₀ scratch : ScratchColumns) : Type 0 where
  pub weights_after : weights ≡ set weights₀ v (boundary_weight (graph_in e) (weights_in e) v)
  pub vertices_after_holds : vertices ≡ set vertices₀ v (boundary_vertex (graph_in e) (weights_in e) v)
  pub table_after : TableInside 0 e v least₀ least before₀ before scratch₀ scratch

-- complete_graph.rs, `PrebuiltCompleteGraph`: likewise for every vertex, one after another.
pub record AllFilled (e : Engine) (weights₀ weights : List ℤ) (vertices₀ vertices : List ℕ) (least₀ least : List ℤ) (before₀ before : List ℕ) (scratch₀ scratch : ScratchColumns) : Type 0 where
  pub weights_after : weights ≡ sets weights₀ 0 (each e.counts.vertices (boundary_weight (graph_in e) (weights_in e)))
  pub vertices_after_holds : vertices ≡ sets vertices₀ 0 (each e.counts.vertices (boundary_vertex (graph_in e) (weights_in e)))
  pub tables_after : TablesInside e e.counts.vertices least₀ least before₀ before scratch₀ scratch
