-- What questions 3 and 4 say of the distance and the rounds, each for itself. Assumes nothing.
use mathlib.Core.Path.{◌≡◌}
use mathlib.Core.Bool.{true}
use Prim.Native.Nat.{ℕ, ◌≤◌}
use Rattle.codes_layers.specs.Accepts.{distance_sound, rounds_sound}
use Rattle.codes_layers.proofs.Accepted.{distance_says, rounds_says}

pub distance_least : (d : ℕ) → distance_sound d ≡ true → 3 ≤ d
distance_least d e = (distance_says d e).three

pub distance_most : (d : ℕ) → distance_sound d ≡ true → d ≤ 4095
distance_most d e = (distance_says d e).few

pub rounds_most : (kind rounds : ℕ) → rounds_sound kind rounds ≡ true → rounds ≤ 4095
rounds_most kind rounds e = (rounds_says kind rounds e).0
