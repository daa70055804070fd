-- What a getter hands back: "A list of defects, erasures or virtual vertices handed back ascends; .. places past the count are unchanged."
use Rattle.std.specs.Prelude.{ℕ, ◌<◌, ◌≡◌, ◌↔◌, List, get_or, Ok}
use Rattle.columns_answers.specs.Counts.{syndrome_lengths}
use Rattle.columns_marks.specs.Marks.{AscendingList}
use Rattle.access_calls.specs.Calls.{Syndrome}
use Rattle.access_claims.specs.AccessCalled.{DefectsGot, ErasuresGot, SyndromeGot, InitializerGot}

-- Sampling, syndromes, reordering, paragraph 2, sentence 4: k stands in one of the first n places of a list.
abbrev pub StandsIn : (n : ℕ) → List ℕ → (k : ℕ) → Type 0
StandsIn n list k = (i : ℕ) × (i < n) × (get_or list i 0 ≡ k)

-- Records, on vertices and on edges: k is one of n vertices or edges, and its byte is not 0: a defect, an erasure or a virtual vertex.
abbrev pub ByteSet : (n : ℕ) → List ℕ → (k : ℕ) → Type 0
ByteSet n bytes k = (k < n) × (get_or bytes k 0 ≡ 0 → ⊥)

-- Sampling, syndromes, reordering, paragraph 2, sentence 4: the column of a list before a call and afterwards; `count` numbers were listed, of the n bytes lent.
pub record ListsBytes (n : ℕ) (bytes list₀ list : List ℕ) (count : ℕ) : Type 0 where
  -- "A list of defects, erasures or virtual vertices handed back ascends; .. places past the count are unchanged."
  pub ascending : AscendingList count list₀ list
  -- It has all of them and nothing else.
  pub lists_set : (k : ℕ) → StandsIn count list k ↔ ByteSet n bytes k

-- Sampling, syndromes, reordering, paragraph 2, sentence 4: of every accepted getter that hands back such a list.
pub record GetterLists : Type 0 where
  pub defect_vertices : (v : ℕ) (defect list₀ list : List ℕ) (count : ℕ) → DefectsGot v defect list₀ list (Ok count) → ListsBytes v defect list₀ list count
  pub erasures : (e : ℕ) (erasure list₀ list : List ℕ) (count : ℕ) → ErasuresGot e erasure list₀ list (Ok count) → ListsBytes e erasure list₀ list count
  pub syndrome_defects : (v e : ℕ) (column lists₀ lists : Syndrome) (defects erasures : ℕ) → SyndromeGot v e column lists₀ lists (Ok (syndrome_lengths defects erasures))
      → ListsBytes v column.defects lists₀.defects lists.defects defects
  pub syndrome_erasures : (v e : ℕ) (column lists₀ lists : Syndrome) (defects erasures : ℕ) → SyndromeGot v e column lists₀ lists (Ok (syndrome_lengths defects erasures))
      → ListsBytes e column.erasures lists₀.erasures lists.erasures erasures
  -- Weights, get_initializer: "virtual vertices ascend."
  pub virtual_vertices : (v : ℕ) (boundary list₀ list : List ℕ) (count : ℕ) → InitializerGot v boundary list₀ list (Ok count) → ListsBytes v boundary list₀ list count
