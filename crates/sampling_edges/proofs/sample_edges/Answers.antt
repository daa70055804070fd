-- `sampling_edges::sample_edges` meets its contract: each turn samples one edge more. Assumes nothing.
use mathlib.Core.Path.{refl}
use native.Mathlib.Omega.{arith}
use Rattle.sampling_edges.proofs.Sampling.{sampled_none, sampled-more}
use Rattle.sampling_edges.proofs.sample_edges.Goals as goal

pub loop-i-init : goal.loop-i-init
loop-i-init c = sampled_none _ _ _ _ _ _ _ _

pub loop-i-preserved : goal.loop-i-preserved
loop-i-preserved c =
    let l = c.loop-i in
    let r = c.sample_edge-sampled in
    sampled-more _ _ _ _ _ _ _ _ l.i l.next l.defect l.erasure r.result c.erasure_byte.result (omega arith) (omega arith) l.invariant r.ensures c.erasure_byte.ensures refl c.flip_edge_if.ensures
