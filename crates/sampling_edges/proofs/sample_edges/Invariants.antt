-- `sampling_edges::sample_edges` meets its contract: after i turns the first i edges are sampled. Assumes nothing.
use Rattle.sampling_edges.specs.Steps.{Sampled}
use Rattle.sampling_edges.proofs.sample_edges.Given as goal

abbrev pub invariant-loop-i : goal.invariant-loop-i
invariant-loop-i l = Sampled l.initial.next l.ends_a l.ends_b l.boundary l.p l.pe l.initial.defect l.initial.erasure l.i l.next l.defect l.erasure
