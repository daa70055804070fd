-- get_positions: which question refuses (0 for none), the answer, and the lent columns afterwards.
use Rattle.std.specs.Prelude.{ℕ, Result, ◌≡◌, Bool, ◌&&◌, List, length, take, Float}
use Rattle.columns.specs.Lists.{after}
use Rattle.columns.specs.Questions.{ask, vertex_count_sound}
use Rattle.columns_answers.specs.Said.{said, Answered}
use Rattle.columns.specs.declared.refusal.Refusal.{Refusal}
use Rattle.columns_room.specs.Room.{three_long}

-- Records, on vertices: the three columns of positions.
pub record Positions : Type 0 where
  pub pos_i : List Float
  pub pos_j : List Float
  pub pos_t : List Float

-- Records, on vertices: the three columns together.
abbrev pub positions : List Float → List Float → List Float → Positions
positions i j t = record { pos_i = i; pos_j = j; pos_t = t }

-- Questions at the door, 6: positions as long as the vertices.
abbrev pub positions_long : ℕ → Positions → Bool
positions_long v p = three_long v (length p.pos_i) (length p.pos_j) (length p.pos_t)

-- Questions at the door, 6 and 7, in order, of `get_positions`; 7 asks the count alone.
abbrev pub positions_refusal : ℕ → Positions → Positions → ℕ
positions_refusal v from to = ask (positions_long v from && positions_long v to) 6 (ask (vertex_count_sound v) 7 0)

-- Taken over, the trait `ExampleCode`: the position of every vertex is copied; the answer, and the columns that it copies into afterwards.
pub record GotPositions (v : ℕ) (from to₀ to : Positions) (answer : Result (Unit {0}) Refusal) : Type 0 where
  pub answers : Answered (said tt answer) (positions_refusal v from to₀) tt tt
  pub pos_i_after : to.pos_i ≡ after (positions_refusal v from to₀) (take v from.pos_i) to₀.pos_i
  pub pos_j_after : to.pos_j ≡ after (positions_refusal v from to₀) (take v from.pos_j) to₀.pos_j
  pub pos_t_after : to.pos_t ≡ after (positions_refusal v from to₀) (take v from.pos_t) to₀.pos_t
