-- `reorder_columns::move_positions_in` meets its contract: each column is gathered from a copy, which holds the same at each place that the order names. Assumes nothing.
use mathlib.Core.Path.{ap, ◌∙◌}
use mathlib.Core.List.{List}
use lib.Ieee.{Float}
use Rattle.columns.specs.Lists.{over}
use Rattle.columns.specs.Places.{zero_float}
use Rattle.reorder_columns.proofs.Copies.{moved_copy}
use Rattle.reorder_columns.proofs.move_positions_in.Goals as goal

pub returns : goal.returns
returns c =
    let a = c.args in
    let r = c.requires.order in
    let s = c.requires.order_in_bounds in
    let e = c.gather_positions.ensures in
    record {
      pos_i_after = e.pos_i_after ∙ ap (λ (l : List Float). over l a.pos_i.now) (moved_copy _ r.0 zero_float _ _ c.copy.ensures s.0 r.1);
      pos_j_after = e.pos_j_after ∙ ap (λ (l : List Float). over l a.pos_j.now) (moved_copy _ r.0 zero_float _ _ c.copy-2.ensures s.1 r.2);
      pos_t_after = e.pos_t_after ∙ ap (λ (l : List Float). over l a.pos_t.now) (moved_copy _ r.0 zero_float _ _ c.copy-3.ensures s.2 r.3);
    }
