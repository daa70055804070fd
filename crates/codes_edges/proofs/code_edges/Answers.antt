-- `codes_edges::code_edges` meets its contract. Invariant: the edges of the first t layers and of the gaps after them are written. Assumes nothing.
use Rattle.codes_layers.proofs.ByKind.{layer_in}
use mathlib.Core.Path.{◌≡◌, sym, ap, ◌∙◌}
use Prim.Native.Nat.{ℕ, ◌+◌, ◌*◌}
use native.Mathlib.Omega.{arith}
use Rattle.columns.specs.Lists.{joined, layered}
use Rattle.codes_writers.proofs.Wrote.{row_room, room_as, room_first, room-then, wrote_as, wrote_none, wrote-a, wrote-b, wrote_then, joined-fits, joined-turn, joined_end}
use Rattle.codes_layers.specs.Codes.{layer_size, layer_edges, gap_edges, edges_of}
use Rattle.codes_edges.proofs.code_edges.Invariants.{part}
use Rattle.codes_edges.proofs.code_edges.Goals as goal

layer_at : (kind d t : ℕ) {size : ℕ} → size ≡ layer_size kind d → layer_edges kind d (t * layer_size kind d) ≡ layer_edges kind d (t * size)
layer_at kind d t e = ap (λ (n : ℕ). layer_edges kind d (t * n)) (sym e)

gap_at : (kind d t : ℕ) {size : ℕ} → size ≡ layer_size kind d → gap_edges kind d (t * layer_size kind d) ≡ gap_edges kind d (t * size)
gap_at kind d t e = ap (λ (n : ℕ). gap_edges kind d (t * n)) (sym e)

pub layer_size-size-requires : goal.layer_size-size-requires
layer_size-size-requires c = omega (arith, row_room (c.args.rounds + 1) (layer_size c.args.kind c.args.d) {row = c.args.rounds} (omega arith))

pub loop-t-init : goal.loop-t-init
unfolding joined
loop-t-init c = wrote_none

pub overflow_mul-t : goal.overflow_mul-t
overflow_mul-t c = omega (arith, layer_in c.args.rounds c.loop-t.t (layer_size c.args.kind c.args.d) c.layer_size-size.ensures (omega arith) (omega arith))

pub layer_edges-m-requires : goal.layer_edges-m-requires
unfolding edges_of layered
layer_edges-m-requires c = record { room = room_as (layer_at c.args.kind c.args.d c.loop-t.t c.layer_size-size.ensures) (room_first _ (gap_edges c.args.kind c.args.d (c.loop-t.t * layer_size c.args.kind c.args.d)) (joined-fits (part c.args.kind c.args.d) c.args.rounds (room_first _ _ c.requires.room) c.loop-t.invariant c.loop-t-test.true)); le_d = omega (arith, layer_in c.args.rounds c.loop-t.t (layer_size c.args.kind c.args.d) c.layer_size-size.ensures (omega arith) (omega arith)) }

pub overflow_mul-t-in-loop-t : goal.overflow_mul-t-in-loop-t
overflow_mul-t-in-loop-t c = omega (arith, layer_in c.args.rounds c.loop-t.t (layer_size c.args.kind c.args.d) c.layer_size-size.ensures (omega arith) (omega arith))

pub gap_edges-next-requires : goal.gap_edges-next-requires
unfolding edges_of layered
gap_edges-next-requires c = record { room = room_as (gap_at c.args.kind c.args.d c.loop-t.t c.layer_size-size.ensures) (room-then _ (joined-fits (part c.args.kind c.args.d) c.args.rounds (room_first _ _ c.requires.room) c.loop-t.invariant c.loop-t-test.true) (wrote_as (sym (layer_at c.args.kind c.args.d c.loop-t.t c.layer_size-size.ensures)) c.layer_edges-m.ensures)); le_d = omega (arith, layer_in c.args.rounds c.loop-t.t (layer_size c.args.kind c.args.d) c.layer_size-size.ensures (omega arith) (omega arith)) }

pub loop-t-preserved : goal.loop-t-preserved
loop-t-preserved c = joined-turn (part c.args.kind c.args.d) c.loop-t.invariant (wrote_then (wrote_as (sym (layer_at c.args.kind c.args.d c.loop-t.t c.layer_size-size.ensures)) c.layer_edges-m.ensures) (wrote_as (sym (gap_at c.args.kind c.args.d c.loop-t.t c.layer_size-size.ensures)) c.gap_edges-next.ensures))

pub overflow_mul-rounds : goal.overflow_mul-rounds
overflow_mul-rounds c = omega (arith, layer_in c.args.rounds c.args.rounds (layer_size c.args.kind c.args.d) c.layer_size-size.ensures (omega arith) (omega arith))

pub layer_edges-requires : goal.layer_edges-requires
unfolding edges_of layered
layer_edges-requires c = record { room = room_as (layer_at c.args.kind c.args.d c.args.rounds c.layer_size-size.ensures) (room-then _ c.requires.room (joined_end (part c.args.kind c.args.d) c.loop-t.invariant (omega arith) c.loop-t-test.false)); le_d = omega (arith, layer_in c.args.rounds c.args.rounds (layer_size c.args.kind c.args.d) c.layer_size-size.ensures (omega arith) (omega arith)) }

pub shape_of-ends_a : goal.shape_of-ends_a
shape_of-ends_a c = wrote-a c.layer_edges.ensures ∙ wrote-a c.loop-t.invariant

pub shape_of-ends_b : goal.shape_of-ends_b
shape_of-ends_b c = wrote-b c.layer_edges.ensures ∙ wrote-b c.loop-t.invariant

pub returns : goal.returns
unfolding edges_of layered
returns c = wrote_then (joined_end (part c.args.kind c.args.d) c.loop-t.invariant (omega arith) c.loop-t-test.false) (wrote_as (sym (layer_at c.args.kind c.args.d c.args.rounds c.layer_size-size.ensures)) c.layer_edges.ensures)
