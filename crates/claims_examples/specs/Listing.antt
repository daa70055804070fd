-- Document 01, "The program `codelist`": the example line and its listing.
use Rattle.columns.specs.declared.refusal.Refusal.{Refusal}
use Rattle.std.specs.Prelude.{ℕ, ◌≤◌, ◌≡◌, List, [], ◌∷◌, length, Result}
use Prim.Native.Char.{code}
use Prim.Native.String as Text
use contract.Lifetimes.{Lfts}
use denote.Triple.Clauses.{AtExit}
use borrow.Fn.World.{ArgsD, ResD}
use Rattle.learnt.specs.Learnt.{Reading, Learnt, one_fact}
use Rattle.columns.specs.Lists.{over}
use Rattle.columns_answers.specs.Said.{accepts, said}
use Rattle.text_answer.specs.Answer.{answer_text, text_room}
use Rattle.text_answer.specs.contracts.codelist as codelist_contract

-- What a caller learns of a call.
abbrev codelist_reading : (κs : Lfts 2) (a : ArgsD codelist_contract.signature κs) (r : ResD codelist_contract.signature κs) (s : AtExit codelist_contract.ended κs)
    → Reading (λ w. (codelist_contract.clauses w.𝓛 w.𝓜.mem w.𝓡.returns κs a).ensures tt r s)
codelist_reading κs a r s = one_fact _

-- The program codelist: a text in bytes; each character here is one byte.
abbrev pub bytes_of : Text.String → List ℕ
bytes_of Text.[] = []
bytes_of (Text.◌∷◌ c t) = code c ∷ bytes_of t

-- The program codelist: the example line.
abbrev pub example_line : Text.String
example_line = "1,3,0,3fc0000000000000,500\n"

-- The program codelist: what it prints.
abbrev pub example_listing : Text.String
example_listing = "g,1,3,0,4,3\nv,0,0\nv,1,0\nv,2,2\nv,3,1\ne,0,0,1,1000\ne,1,1,2,1000\ne,2,0,3,1000\nc,3000\n"

-- The program codelist: a call that returned: the input, the text column before and after, and the answer. `Learnt` is what a caller of the function learns.
pub data CodelistReturned : (input text₀ text : List ℕ) → Result ℕ Refusal → Type 0 where
  codelist_returned : (κs : Lfts 2) (a : ArgsD codelist_contract.signature κs) (r : Result ℕ Refusal) (s : AtExit codelist_contract.ended κs) → Learnt (codelist_reading κs a r s)
      → CodelistReturned a.0.now a.1.0.now s.1.0.now r

-- The program codelist, "Input `1,3,0,3fc0000000000000,500` prints:": of every call with this input and a text column that is long enough.
pub record ListingPrinted : Type 0 where
  pub text : answer_text (bytes_of example_line) ≡ bytes_of example_listing
  pub printed : (text₀ text : List ℕ) (r : Result ℕ Refusal) → CodelistReturned (bytes_of example_line) text₀ text r → text_room ≤ length text₀
      → (said 0 r ≡ accepts (length (bytes_of example_listing))) × (text ≡ over (bytes_of example_listing) text₀)
