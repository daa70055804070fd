-- What the functions that write promise their callers.
use Rattle.std.specs.Prelude.{ℕ, ◌+◌, ◌≡◌, List, length}
use Rattle.std.proofs.lemmas.List.Edits.{sets}

-- The program codelist, the listing: bytes were stored from place `at` on, as far as the text has places: text₀ became text, and the next place is r.
pub record Put (text₀ : List ℕ) (at : ℕ) (bytes text : List ℕ) (r : ℕ) : Type 0 where
  pub stored : text ≡ sets text₀ at bytes
  pub next : r ≡ at + length bytes
