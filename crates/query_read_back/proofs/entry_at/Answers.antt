-- `query_read_back::entry_at` meets its contract: `is_taken` decides. Assumes nothing.
use mathlib.Core.Path.{sym, ap, ◌∙◌}
use mathlib.Core.Bool.{cond}
use mathlib.Core.Option.{some, none}
use lib.ListN.{get_or}
use Rattle.query_read_back.specs.Path.{entry_of}
use Rattle.query_read_back.proofs.entry_at.Goals as goal

pub returns-then-is_taken : goal.returns-then-is_taken
returns-then-is_taken c w =
    let a = c.args in
    ap (λ x. entry_of (some x)) c.load_previous.ensures
    ∙ ap (λ b. entry_of (cond b (some (get_or a.previous.now a.v.0 0)) none)) (sym c.if-is_taken.true ∙ c.is_taken.ensures w a.previous.now)

pub returns-else-is_taken : goal.returns-else-is_taken
returns-else-is_taken c w =
    let a = c.args in ap (λ b. entry_of (cond b (some (get_or a.previous.now a.v.0 0)) none)) (sym c.if-is_taken.false ∙ c.is_taken.ensures w a.previous.now)
