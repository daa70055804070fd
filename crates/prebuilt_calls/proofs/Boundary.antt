-- What `get_boundary_weight` answers, from an accepted table. Assumes nothing.
use mathlib.Core.Path.{◌≡◌, ap, ◌∙◌}
use mathlib.Core.List.{List}
use Prim.Native.Nat.{ℕ}
use lib.ListN.{take}
use lib.IntN.{ℤ}
use Rattle.std.specs.Prelude.{Option, None, Ok}
use Rattle.columns_answers.proofs.Said.{accepts-of}
use Rattle.engine_columns.specs.Records.{Engine}
use Rattle.query_questions.specs.Scratch.{ScratchColumns}
use Rattle.query_tables.specs.Tables.{FoundTable}
use Rattle.prebuilt_entries.specs.Nearest.{boundary_in}
use Rattle.prebuilt_calls.specs.declared.nearest.BoundaryVertex.{BoundaryVertex}
use Rattle.prebuilt_calls.specs.Nearest.{nearest_values, boundary_found, GotBoundaryWeight}
use Rattle.prebuilt_calls.proofs.Replies.{table_there}

pub boundary_got : (e : Engine) (v : ℕ) {least₀ least : List ℤ} {before₀ before : List ℕ} {s₀ s : ScratchColumns} → FoundTable e v None (Ok tt) least₀ least before₀ before s₀ s
    → (b : Option BoundaryVertex)
    → nearest_values b ≡ boundary_found (take e.counts.vertices least) (boundary_in (take e.counts.vertices e.boundary) (take e.counts.vertices least) e.counts.vertices v)
    → GotBoundaryWeight e v (Ok b) least₀ least before₀ before s₀ s
boundary_got e v f b q =
    let t = table_there f in
    let n = e.counts.vertices in
    let r = q ∙ ap (λ l. boundary_found l (boundary_in (take n e.boundary) l n v)) t.is_table in
    record { answers = rw r (accepts-of t.met); table_after = t.inside }
