-- `syndrome_of`.
use Rattle.std.specs.Prelude.{ℕ, ◌+◌, ◌%◌, ◌≡◌, Bool, ◌&&◌, cond, List, [], ◌∷◌, length, get_or, eqb, leb, Result}
use Rattle.columns.specs.Limits.{inner}
use Rattle.columns.specs.Lists.{after}
use Rattle.columns.specs.Questions.{ask, all_below}
use Rattle.columns_neighbors.specs.Lists.{chosen}
use Rattle.columns.specs.declared.refusal.Refusal.{Refusal}
use Rattle.columns_room.specs.Graph.{CodeGraph, graph_long, code_sound}
use Rattle.columns_answers.specs.Said.{said, Answered}

-- Sampling, syndromes, reordering, paragraph 2, sentence 3: 1 where x is vertex v, else 0.
abbrev pub hit : (v x : ℕ) → ℕ
hit v x = cond (eqb x v) 1 0

-- Sampling, syndromes, reordering, paragraph 2, sentence 3: how many ends of the listed edges are at vertex v, an edge counted as often as it is named.
unfoldable pub ends_in : (a b edges : List ℕ) (v : ℕ) → ℕ
ends_in a b [] v = 0
ends_in a b (k ∷ ks) v = hit v (get_or a k 0) + hit v (get_or b k 0) + ends_in a b ks v

-- Sampling, syndromes, reordering, paragraph 2, sentence 3: v is a defect of the listed edges:
-- it is inner, and an odd number of their ends are there, so that an edge named twice cancels.
unfoldable pub is_defect_of : CodeGraph → List ℕ → ℕ → Bool
is_defect_of g edges v = eqb (get_or g.boundary v 0) inner && eqb (ends_in g.ends_a g.ends_b edges v % 2) 1

-- Sampling, syndromes, reordering, paragraph 2, sentence 4: the defects of the listed edges, ascending.
unfoldable pub syndrome_of : CodeGraph → List ℕ → List ℕ
syndrome_of g edges = chosen g.vertices (is_defect_of g edges)

-- Questions at the door, 6, 7 and 13, in order, of `syndrome_of`.
unfoldable pub syndrome_refusal : CodeGraph → (edges defect_list : List ℕ) → ℕ
syndrome_refusal g edges defect_list =
    ask (graph_long g && leb g.vertices (length defect_list)) 6
    (ask (code_sound g) 7
    (ask (all_below g.edges edges) 13 0))

-- Sampling, syndromes, reordering, paragraph 2, sentences 3 and 4: the answer is how many defects there are, and the list names them.
pub record FoundSyndrome (g : CodeGraph) (edges defectList₀ : List ℕ) (answer : Result ℕ Refusal) (defect_list : List ℕ) : Type 0 where
  pub answers : Answered (said 0 answer) (syndrome_refusal g edges defectList₀) (length (syndrome_of g edges)) 0
  pub defect_list_after : defect_list ≡ after (syndrome_refusal g edges defectList₀) (syndrome_of g edges) defectList₀
