-- What reading standard input answers: document 01, "The program `codelist`".
use Rattle.std.specs.Prelude.{ℕ, ◌≤◌, min, Result, Ok, Err, IfOk}

-- The program codelist, sentence 1: what a read of standard input answers: an error where it failed, else how many bytes it put, 0 at the input's end.
abbrev pub read_of : {E : Type 0} (got : Result ℕ E) (places : ℕ) → Result ℕ E
read_of (Ok k) places = Ok (min k places)
read_of (Err e) places = Err e

-- The program codelist, sentence 1: no more bytes were read than there were places for.
abbrev pub ReadWithin : {E : Type 0} (places : ℕ) → Result ℕ E → Type 0
ReadWithin places r = IfOk r (λ n. n ≤ places)
