-- What an accepted get_positions says of its columns. Assumes nothing.
use mathlib.Core.Path.{◌≡◌}
use mathlib.Core.Bool.{◌&&◌}
use Prim.Native.Nat.{ℕ, ◌≤◌}
use lib.ListN.{length}
use Rattle.columns.proofs.Tests.{and_both}
use Rattle.columns.proofs.Refusals.{met}
use Rattle.columns_room.proofs.Refusals.{three_long_lem}
use Rattle.access_vertices.specs.Positions.{Positions, positions_long, positions_refusal}

pub positions_long_lem : (v : ℕ) (from to : Positions) → positions_refusal v from to ≡ 0
    → ((v ≤ length from.pos_i) × (v ≤ length from.pos_j) × (v ≤ length from.pos_t)) × ((v ≤ length to.pos_i) × (v ≤ length to.pos_j) × (v ≤ length to.pos_t))
positions_long_lem v from to z =
    let (p, q) = and_both (positions_long v from) (positions_long v to) (met (positions_long v from && positions_long v to) 5 _ z) in
    (three_long_lem v _ _ _ p, three_long_lem v _ _ _ q)
