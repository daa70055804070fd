-- `reorder_columns::gather_positions` meets its contract: after k turns the first k listed positions are stored. Assumes nothing.
use mathlib.Core.Path.{◌≡◌, ap, ◌∙◌}
use Prim.Native.Nat.{◌<◌}
use native.Mathlib.Omega.{arith}
use lib.ListN.{get_or, length}
use Rattle.columns.specs.Places.{zero_float}
use Rattle.columns.specs.declared.VisualizePosition.{VisualizePosition}
use Rattle.reorder_orders.proofs.Gathering.{gather-more, gather-end}
use Rattle.reorder_columns.proofs.gather_positions.Goals as goal

pub loop-k-preserved : goal.loop-k-preserved
loop-k-preserved c =
    let a = c.args in
    let l = c.loop-k in
    let v = c.load-position.ensures in
    let e = c.store.ensures in
    let b : l.k < length a.list.now = omega arith in (
      e.0 ∙ gather-more (λ u. get_or a.from_i.now u zero_float) _ _ l.k b l.invariant.0 (ap (λ (p : VisualizePosition). p.i) v),
      e.1 ∙ gather-more (λ u. get_or a.from_j.now u zero_float) _ _ l.k b l.invariant.1 (ap (λ (p : VisualizePosition). p.j) v),
      e.2 ∙ gather-more (λ u. get_or a.from_t.now u zero_float) _ _ l.k b l.invariant.2 (ap (λ (p : VisualizePosition). p.t) v),
    )

pub returns : goal.returns
returns c =
    let a = c.args in
    let l = c.loop-k in
    let e : l.k ≡ length a.list.now = omega arith in
    record {
      pos_i_after = gather-end (λ u. get_or a.from_i.now u zero_float) _ _ l.k e c.requires.0 l.invariant.0;
      pos_j_after = gather-end (λ u. get_or a.from_j.now u zero_float) _ _ l.k e c.requires.1 l.invariant.1;
      pos_t_after = gather-end (λ u. get_or a.from_t.now u zero_float) _ _ l.k e c.requires.2 l.invariant.2;
    }
