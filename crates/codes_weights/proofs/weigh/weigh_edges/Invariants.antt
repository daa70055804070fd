-- `codes_weights::weigh::weigh_edges` meets its contract. Invariant: the first i edges have what they get. Assumes nothing.
use mathlib.Core.Path.{◌≡◌}
use mathlib.Core.Bool.{cond}
use lib.Seq.{sets}
use Rattle.columns.specs.Lists.{each}
use Rattle.codes_weights.specs.Steps.{diagonal_at}
use Rattle.codes_weights.proofs.weigh.weigh_edges.Given as goal

abbrev pub invariant-loop-i : goal.invariant-loop-i
invariant-loop-i l = record {
  in_p : l.p ≡ sets l.initial.p 0 (each l.i (λ k. cond (diagonal_at l.ends_a l.ends_b l.pos_i l.pos_j l.pos_t k) l.other.p l.straight.p));
  in_h : l.half_weight ≡ sets l.initial.half_weight 0 (each l.i (λ k. cond (diagonal_at l.ends_a l.ends_b l.pos_i l.pos_j l.pos_t k) l.other.half l.straight.half));
}
