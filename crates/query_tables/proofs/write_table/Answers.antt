-- `query_tables::write_table` meets its contract: each column has room for as many rows as there are vertices. Assumes nothing.
use mathlib.Core.Path.{ap, ◌∙◌}
use native.Mathlib.Omega.{arith}
use lib.ListN.{take}
use lib.Seq.{sets, length-take-le}
use Rattle.columns.specs.Lists.{each}
use Rattle.columns.proofs.Columns.{sets_over}
use Rattle.columns.proofs.Counting.{length-each}
use Rattle.engine_walks.specs.Answers.{table_weight, table_previous}
use Rattle.query_relaxing.specs.Ready.{state_of}
use Rattle.query_tables.proofs.write_table.Goals as goal

pub returns-clause-weights_after : goal.returns-clause-weights_after
returns-clause-weights_after c =
    let a = c.args in
    let rows = table_weight (state_of (take a.v a.status.now) (take a.v a.weight.now) (take a.v a.previous.now)) in
    c.write_weights.ensures (take a.v a.previous.now) ∙ ap (λ n. sets a.out_weight.now 0 (each n rows)) (length-take-le a.v a.status.now c.requires.lengths.0)
    ∙ sets_over a.out_weight.now (each a.v rows) (omega (arith, length-each a.v rows, c.requires.lengths))

pub returns-clause-previous_after : goal.returns-clause-previous_after
returns-clause-previous_after c =
    let a = c.args in
    let rows = table_previous (state_of (take a.v a.status.now) (take a.v a.weight.now) (take a.v a.previous.now)) in
    c.write_previous.ensures (take a.v a.weight.now) ∙ ap (λ n. sets a.out_previous.now 0 (each n rows)) (length-take-le a.v a.status.now c.requires.lengths.0)
    ∙ sets_over a.out_previous.now (each a.v rows) (omega (arith, length-each a.v rows, c.requires.lengths))
