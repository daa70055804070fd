-- How many defects and how many erasures a call hands back.
use Rattle.std.specs.Prelude.{ℕ}
use Rattle.columns_answers.specs.declared.SyndromeLengths.{SyndromeLengths}

-- Sampling, syndromes, reordering, paragraph 2, sentence 4: so many defects and so many erasures.
abbrev pub syndrome_lengths : ℕ → ℕ → SyndromeLengths
syndrome_lengths d e = record { defects = d; erasures = e }

-- Questions at the door, sentence 2: what a refused call answers beside the number.
abbrev pub no_lengths : SyndromeLengths
no_lengths = syndrome_lengths 0 0
