-- `engine_log::erase_all` meets its contract: after i entries the columns are as `loaded`, `named` and `earlier` say. Assumes nothing.
use mathlib.Core.Path.{◌≡◌, ap, ◌∙◌}
use native.Mathlib.Omega.{arith}
use native.Mathlib.Numerals.{add-one}
use lib.ListN.{length}
use Rattle.engine_log.proofs.Loads.{loaded-length, named-length, earlier-length}
use Rattle.engine_log.proofs.erase_all.Goals as goal

pub set_weight-requires : goal.set_weight-requires
set_weight-requires c =
    let s = c in
    let a = s.args in
    let l = c.loop-i in
    let w : length l.weights ≡ length a.weights.now = ap length l.invariant.1 ∙ simp loaded-length in
    let e : length l.log_edges ≡ length a.log_edges.now = ap length l.invariant.2 ∙ simp named-length in
    let g : length l.log_weights ≡ length a.log_weights.now = ap length l.invariant.3 ∙ simp earlier-length in
    (rw w (s.requires.by_index l.i (omega arith)), omega arith, omega arith)

pub loop-i-preserved : goal.loop-i-preserved
loop-i-preserved c =
    let a = c.args in
    let l = c.loop-i in
    let p = c.set_weight in (
      omega arith,
      rw add-one (p.ensures.weights_after ∙ rw l.invariant.1),
      rw add-one (p.ensures.log_edges_after ∙ rw l.invariant.2),
      rw add-one (p.ensures.log_weights_after ∙ rw (l.invariant.1, l.invariant.3)),
    )

pub shape_of-weights : goal.shape_of-weights
shape_of-weights c = ap length c.loop-i.invariant.1 ∙ simp loaded-length

pub shape_of-log_edges : goal.shape_of-log_edges
shape_of-log_edges c = ap length c.loop-i.invariant.2 ∙ simp named-length

pub shape_of-log_weights : goal.shape_of-log_weights
shape_of-log_weights c = ap length c.loop-i.invariant.3 ∙ simp earlier-length

pub returns : goal.returns
returns c = let a = c.args in
    let l = c.loop-i in
    let e : length a.list.now ≡ l.i = omega arith in
    rw e record { weights_after = l.invariant.1; log_edges_after = l.invariant.2; log_weights_after = l.invariant.3 }
