-- Document 01, "The program `codelist`": one line kind,d,rounds,p,M ending in byte 0a, nothing after it; decimals of 1 to 9 digits
-- without leading zeros (0 alone is well formed), p as 16 lowercase hexadecimal digits.
use Rattle.std.specs.Prelude.{ℕ, suc, ◌+◌, ◌-◌, ◌*◌, ◌<◌, ◌≤◌, Bool, not, ◌&&◌, ◌||◌, cond, List, [], ◌∷◌, leb, eqb, length, get_or, take, drop, Option, None, Some}
use Rattle.columns.specs.Questions.{ask, all}
use Rattle.columns_answers.specs.Said.{Said, accepts, refuses, Answered}
use Rattle.text_input.specs.declared.CodeLine.{CodeLine}

-- The program codelist, sentence 1: the byte of a comma.
abbrev pub comma : ℕ
comma = 0x2c

-- The program codelist, sentence 1: the byte at a line's end.
abbrev pub newline : ℕ
newline = 0x0a

-- The program codelist, sentence 1: the byte of the digit 0.
abbrev pub zero_digit : ℕ
zero_digit = 0x30

-- The program codelist, sentence 1: a decimal digit, 0 to 9.
abbrev pub is_digit : ℕ → Bool
is_digit b = leb 0x30 b && leb b 0x39

-- The program codelist, sentence 1: a lowercase hexadecimal digit, 0 to 9 or a to f.
abbrev pub is_hex_digit : ℕ → Bool
is_hex_digit b = is_digit b || (leb 0x61 b && leb b 0x66)

-- The program codelist, sentence 1: how many decimal digits a text starts with.
unfoldable pub digits : List ℕ → ℕ
digits [] = 0
digits (b ∷ bs) = cond (is_digit b) (suc (digits bs)) 0

-- The program codelist, sentence 1: what a decimal digit counts.
abbrev pub digit_of : ℕ → ℕ
digit_of b = b - 0x30

-- The program codelist, sentence 1: what a hexadecimal digit counts.
abbrev pub hex_digit_of : ℕ → ℕ
hex_digit_of b = cond (leb b 0x39) (b - 0x30) (b - 0x57)

-- The program codelist, sentence 1: the number that digits write, the highest first, after those that write n.
unfoldable pub number_written : (base : ℕ) (of : ℕ → ℕ) (n : ℕ) → List ℕ → ℕ
number_written base of n [] = n
number_written base of n (b ∷ bs) = number_written base of (n * base + of b) bs

-- ---- the field that a text starts with

-- The program codelist, sentence 1: 1 to 9 digits, without leading zeros (0 alone is well formed), then the byte `stop`.
unfoldable pub decimal_sound : (stop : ℕ) → List ℕ → Bool
decimal_sound stop t = (leb 1 (digits t) && leb (digits t) 9) && ((eqb (digits t) 1 || not (eqb (get_or t 0 0) zero_digit)) && eqb (get_or t (digits t) 0) stop)

-- The program codelist, sentence 1: the number of a decimal field.
unfoldable pub decimal_of : List ℕ → ℕ
decimal_of t = number_written 10 digit_of 0 (take (digits t) t)

-- The program codelist, sentence 1: 16 lowercase hexadecimal digits, then a comma.
unfoldable pub hex_sound : List ℕ → Bool
hex_sound t = (leb 16 (length t) && all is_hex_digit (take 16 t)) && eqb (get_or t 16 0) comma

-- The program codelist, sentence 1: the number of the field of p.
unfoldable pub hex_of : List ℕ → ℕ
hex_of t = number_written 16 hex_digit_of 0 (take 16 t)

-- The program codelist, sentence 1: what follows a decimal field with its last byte.
abbrev pub after_decimal : List ℕ → List ℕ
after_decimal t = drop (digits t + 1) t

-- The program codelist, sentence 1: what follows the field of p with its comma.
abbrev pub after_hex : List ℕ → List ℕ
after_hex t = drop 17 t

-- ---- the line

-- The program codelist, sentence 1: the text from d on.
abbrev pub from_d : List ℕ → List ℕ
from_d t = after_decimal t

-- The program codelist, sentence 1: the text from rounds on.
abbrev pub from_rounds : List ℕ → List ℕ
from_rounds t = after_decimal (from_d t)

-- The program codelist, sentence 1: the text from p on.
abbrev pub from_p : List ℕ → List ℕ
from_p t = after_decimal (from_rounds t)

-- The program codelist, sentence 1: the text from M on.
abbrev pub from_m : List ℕ → List ℕ
from_m t = after_hex (from_p t)

-- Questions at the door, 1; The program codelist, sentence 1: five fields, and nothing after them.
unfoldable pub well_formed : List ℕ → Bool
well_formed t =
    (decimal_sound comma t && (decimal_sound comma (from_d t) && decimal_sound comma (from_rounds t)))
    && (hex_sound (from_p t) && (decimal_sound newline (from_m t) && eqb (length (from_m t)) (digits (from_m t) + 1)))

-- The program codelist, sentence 1: the five numbers: kind, d, rounds, the bits of p, M.
abbrev pub line_of : List ℕ → CodeLine
line_of t = record { kind = decimal_of t; d = decimal_of (from_d t); rounds = decimal_of (from_rounds t); bits = hex_of (from_p t); max = decimal_of (from_m t) }

-- Questions at the door, sentence 2: the five numbers of a refused line, all 0.
abbrev pub no_line : CodeLine
no_line = record { kind = 0; d = 0; rounds = 0; bits = 0; max = 0 }

-- Expected forms by place, last paragraph: document 01's number and values for each case of what reading a line answers: the five numbers, 0 where the line was refused.
abbrev pub line_said : Option CodeLine → Said CodeLine
line_said (Some l) = accepts l
line_said None = refuses 1 no_line

-- Questions at the door, 1: what reading a line answers, and the five numbers.
abbrev pub ReadsLine : List ℕ → Option CodeLine → Type 0
ReadsLine t r = Answered (line_said r) (ask (well_formed t) 1 0) (line_of t) no_line

-- ---- a part of an input

-- The program codelist, sentence 1: no well-formed line is longer than 57 bytes, so of a longer input any part with more than 57 bytes is read as the whole is.
abbrev pub LongInputsAlike : Type 0
LongInputsAlike = (input : List ℕ) (n : ℕ) → 57 < n → n ≤ length input → (r : Option CodeLine) → ReadsLine (take n input) r → ReadsLine input r
