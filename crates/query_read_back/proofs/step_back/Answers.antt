-- `query_read_back::step_back` meets its contract: where v is not a it is what `entry_at` promises. Assumes nothing.
use mathlib.Core.Path.{sym, ap, ◌∙◌}
use mathlib.Core.Bool.{cond}
use mathlib.Core.Option.{none}
use borrow.Author.Tests.{ne_eqb}
use Rattle.engine_walks.specs.Answers.{entry}
use Rattle.query_relaxing.specs.Ready.{state_of}
use Rattle.query_read_back.specs.Path.{entry_of}
use Rattle.query_read_back.proofs.step_back.Goals as goal

pub returns-else-v-a : goal.returns-else-v-a
returns-else-v-a c w =
    let a = c.args in c.entry_at.ensures w ∙ ap (λ b. entry_of (cond b none (entry (state_of a.status.now w a.previous.now) a.v.0))) (sym (ne_eqb a.v.0 a.a.0 c.if-v-a.false))
