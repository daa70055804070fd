-- `reorder_calls::reorder_vertices` meets its contract: where no question fails, the order and the columns are as the callees require. Assumes nothing.
use mathlib.Core.Path.{◌≡◌, sym, ap}
use Prim.Native.Nat.{ℕ}
use native.Mathlib.Omega.{arith}
use lib.ListN.{length}
use Rattle.columns_neighbors.specs.Lists.{sum_to}
use Rattle.reorder_calls.proofs.Accepting.{reorder_met, reordered-accepted}
use Rattle.reorder_calls.proofs.reorder_vertices.Goals as goal

pub rename_ends-requires : goal.rename_ends-requires
rename_ends-requires c =
    let k = reorder_met _ _ _ _ (sym c.in_ok-reorder_questions.ensures) in
    let g = k.sound.graph in
    record { order = (k.order_is, g.long_a, g.long_b); by_index = ((λ i h. omega (arith, k.many, g.in_a i h)), (λ i h. omega (arith, k.many, g.in_b i h))) }

pub move_u8-requires : goal.move_u8-requires
move_u8-requires c =
    let k = reorder_met _ _ _ _ (sym c.in_ok-reorder_questions.ensures) in
    (k.order_is, omega (arith, k.many, k.long_boundary))

pub move_u8-requires-2 : goal.move_u8-requires-2
move_u8-requires-2 c =
    let k = reorder_met _ _ _ _ (sym c.in_ok-reorder_questions.ensures) in
    (k.order_is, omega (arith, k.many, k.long_defect))

pub move_positions-requires : goal.move_positions-requires
move_positions-requires c =
    let k = reorder_met _ _ _ _ (sym c.in_ok-reorder_questions.ensures) in
    (k.order_is, omega (arith, k.many, k.long_i), omega (arith, k.many, k.long_j), omega (arith, k.many, k.long_t))

pub move_lists-requires : goal.move_lists-requires
move_lists-requires c =
    let a = c.args in
    let k = reorder_met _ _ _ _ (sym c.in_ok-reorder_questions.ensures) in
    let e : sum_to (length a.order.now) a.list_lengths.now ≡ sum_to a.vertex_num a.list_lengths.now = ap (λ (n : ℕ). sum_to n a.list_lengths.now) k.many in
    record { order = (k.order_is, omega (arith, k.many, k.long_lengths)); lengths_in_bounds = (omega (arith, e, k.long_numbers), omega (arith, e, k.long_scratch)) }

pub move_u32-requires : goal.move_u32-requires
move_u32-requires c =
    let k = reorder_met _ _ _ _ (sym c.in_ok-reorder_questions.ensures) in
    (k.order_is, omega (arith, k.many, k.long_lengths))

pub returns : goal.returns
returns c =
    let z = sym c.in_ok-reorder_questions.ensures in
    let ends = c.rename_ends.ensures in
    let at = c.move_positions.ensures in
    let lists = c.move_lists.ensures in
    reordered-accepted _ _ _ _ _ z (reorder_met _ _ _ _ z).many ends.ends_a_after ends.ends_b_after c.move_u8.ensures c.move_u8-2.ensures at.pos_i_after at.pos_j_after at.pos_t_after c.move_u32.ensures lists.numbers_after lists.scratch_after
