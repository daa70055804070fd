-- Questions 2 to 5 of document 01.
use Rattle.std.specs.Prelude.{ℕ, ◌%◌, ◌≡◌, Bool, ◌&&◌, ◌||◌, eqb, leb}
use Rattle.columns.specs.Limits.{vertex_limit}
use Rattle.columns.specs.Questions.{ask}
use Rattle.codes_layers.specs.Counts.{vertex_num}

-- Questions at the door, 2: kind 1 to 6.
unfoldable pub kind_known : ℕ → Bool
kind_known kind = leb 1 kind && leb kind 6

-- Questions at the door, 3: d odd, 3 to 4,095.
unfoldable pub distance_sound : ℕ → Bool
distance_sound d = eqb (d % 2) 1 && (leb 3 d && leb d 4095)

-- Questions at the door, 4: rounds 0 to 4,095, and 0 for kinds 1, 2, 5.
unfoldable pub rounds_sound : (kind rounds : ℕ) → Bool
rounds_sound kind rounds = leb rounds 4095 && (eqb rounds 0 || (eqb kind 3 || (eqb kind 4 || eqb kind 6)))

-- Questions at the door, 2 to 5 in order, then the next ones; 5: at most 4,096 vertices.
unfoldable pub code_refusal : (kind d rounds next : ℕ) → ℕ
code_refusal kind d rounds next =
    ask (kind_known kind) 2
    (ask (distance_sound d) 3
    (ask (rounds_sound kind rounds) 4
    (ask (leb (vertex_num kind d rounds) vertex_limit) 5 next)))

-- Questions at the door, 2 to 5: a code that they accept.
abbrev pub Buildable : (kind d rounds : ℕ) → Type 0
Buildable kind d rounds = code_refusal kind d rounds 0 ≡ 0
