-- Document 01, "Six builders": "Every built code gets 0."
use Rattle.std.specs.Prelude.{ℕ, ◌≡◌, Option, Result}
use Rattle.columns_answers.specs.Said.{accepts}
use Rattle.columns.specs.declared.refusal.Refusal.{Refusal}
use Rattle.sanity_verdicts.specs.declared.Finding.{Finding}
use Rattle.sanity_verdicts.specs.Sanity.{verdict_said}
use Rattle.codes_calls.specs.Columns.{CodeColumns}
use Rattle.sanity_claims.specs.BuiltAndChecked.{ColumnsBuilt, SanityCalled}

-- Six builders, sanity_check, sentence 3: whatever an accepted `create_code`, `new` or `new_diagonal` left in its columns,
-- `sanity_check` accepts it with verdict 0, no edge and no vertex named.
abbrev pub BuiltCodesAreSound : Type 0
BuiltCodesAreSound =
    (vertices edges : ℕ) (c : CodeColumns) (r : Result (Option Finding) Refusal) → ColumnsBuilt vertices edges c
    → SanityCalled vertices edges c.ends_a c.ends_b c.list_lengths c.neighbor_numbers r → verdict_said r ≡ accepts (0, 0, 0)
