-- `codes_circuit::circuit_cell` meets its contract: the four pushes write the four parts of `circuit_cell` in order, each in the room that is left. Assumes nothing.
use mathlib.Core.Path.{refl, ap}
use mathlib.Core.Bool.{Bool}
use mathlib.Core.List.{[], ◌∷◌}
use Prim.Native.Nat.{◌+◌}
use native.Mathlib.Omega.{arith}
use Rattle.columns.specs.Lists.{when}
use Rattle.codes_writers.specs.Edges.{Ends}
use Rattle.codes_writers.proofs.Wrote.{wrote_as, wrote_then, room_first, room-then, room_as}
use Rattle.codes_circuit.specs.Circuit.{circuit_cell}
use Rattle.codes_circuit.proofs.circuit_cell.Goals as goal

pub push-n1-requires : goal.push-n1-requires
unfolding circuit_cell
push-n1-requires c =
    let r = room_first ((c.args.bias + c.args.i, c.args.bias + c.args.i + c.args.size) ∷ []) _ c.requires.room in
    omega (arith, r.room_a, r.room_b)

pub push_if-n2-requires : goal.push_if-n2-requires
unfolding circuit_cell
push_if-n2-requires c = room_first _ _ (room-then _ c.requires.room c.push-n1.ensures)

pub push_if-n3-requires : goal.push_if-n3-requires
unfolding circuit_cell
push_if-n3-requires c = room_first _ _ (room-then _ (room-then _ c.requires.room c.push-n1.ensures) c.push_if-n2.ensures)

pub overflow_add-x-5 : goal.overflow_add-x-5
overflow_add-x-5 c = omega (arith, c.requires.le_d)

pub push_if-requires : goal.push_if-requires
unfolding circuit_cell
push_if-requires c = room_as (ap (λ (m : Bool). when {A = Ends} m (c.args.bias + c.args.i, c.args.bias + c.args.i + (c.args.d + 1 + 1 + c.args.size))) refl) (room-then _ (room-then _ (room-then _ c.requires.room c.push-n1.ensures) c.push_if-n2.ensures) c.push_if-n3.ensures)

pub returns : goal.returns
unfolding circuit_cell
returns c = wrote_then c.push-n1.ensures (wrote_then c.push_if-n2.ensures (wrote_then c.push_if-n3.ensures (wrote_as (ap (λ (m : Bool). when {A = Ends} m (c.args.bias + c.args.i, c.args.bias + c.args.i + (c.args.d + 1 + 1 + c.args.size))) refl) c.push_if.ensures)))
