-- What a getter hands back after a setter.
use Rattle.std.specs.Prelude.{ℕ, ◌≡◌, ◌↔◌, ◌&&◌, List, length, leb, Result, Ok}
use Rattle.columns.specs.Questions.{ask}
use Rattle.columns.specs.declared.refusal.Refusal.{Refusal}
use Rattle.columns_answers.specs.Said.{said}
use Rattle.columns_answers.specs.declared.SyndromeLengths.{SyndromeLengths}
use Rattle.columns_answers.specs.Counts.{syndrome_lengths, no_lengths}
use Rattle.columns_marks.specs.Marks.{Ascending}
use Rattle.access_calls.specs.Calls.{Syndrome}
use Rattle.access_claims.specs.AccessCalled.{DefectsSet, ErasuresSet, SyndromeSet, DefectsGot, ErasuresGot, SyndromeGot}
use Rattle.access_claims.specs.Lists.{StandsIn}

-- Taken over, the trait `ExampleCode`: the numbers handed over to a setter, each once, ascending: the first `count` places of a getter's list.
pub record SameNumbers (handed list : List ℕ) (count : ℕ) : Type 0 where
  pub ascends : Ascending count list
  pub same : (k : ℕ) → StandsIn count list k ↔ StandsIn (length handed) handed k

-- Taken over, the trait `ExampleCode`: of every accepted setter, and a getter of the same counts that is lent the bytes as the setter left them.
pub record SetThenGet : Type 0 where
  -- The getter lists what the setter was handed.
  pub defect_vertices : (v : ℕ) (handed defect list₀ list : List ℕ) (count : ℕ)
      → DefectsSet v handed defect → DefectsGot v defect list₀ list (Ok count) → SameNumbers handed list count
  pub erasures : (e : ℕ) (handed erasure list₀ list : List ℕ) (count : ℕ)
      → ErasuresSet e handed erasure → ErasuresGot e erasure list₀ list (Ok count) → SameNumbers handed list count
  pub syndrome_defects : (v e : ℕ) (handed column lists₀ lists : Syndrome) (defects erasures : ℕ)
      → SyndromeSet v e handed column → SyndromeGot v e column lists₀ lists (Ok (syndrome_lengths defects erasures)) → SameNumbers handed.defects lists.defects defects
  pub syndrome_erasures : (v e : ℕ) (handed column lists₀ lists : Syndrome) (defects erasures : ℕ)
      → SyndromeSet v e handed column → SyndromeGot v e column lists₀ lists (Ok (syndrome_lengths defects erasures)) → SameNumbers handed.erasures lists.erasures erasures
  -- Questions at the door, 6: it is refused only where its list is shorter than the count.
  pub defect_vertices_number : (v : ℕ) (handed defect list₀ list : List ℕ) (r : Result ℕ Refusal)
      → DefectsSet v handed defect → DefectsGot v defect list₀ list r → (said 0 r).number ≡ ask (leb v (length list₀)) 6 0
  pub erasures_number : (e : ℕ) (handed erasure list₀ list : List ℕ) (r : Result ℕ Refusal)
      → ErasuresSet e handed erasure → ErasuresGot e erasure list₀ list r → (said 0 r).number ≡ ask (leb e (length list₀)) 6 0
  pub syndrome_number : (v e : ℕ) (handed column lists₀ lists : Syndrome) (r : Result SyndromeLengths Refusal)
      → SyndromeSet v e handed column → SyndromeGot v e column lists₀ lists r
      → (said no_lengths r).number ≡ ask (leb v (length lists₀.defects) && leb e (length lists₀.erasures)) 6 0
