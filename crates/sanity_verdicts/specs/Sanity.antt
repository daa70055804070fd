-- The verdict of sanity_check, as the Rust gives it.
use Rattle.std.specs.Prelude.{ℕ, zero, suc, ◌≡◌, Bool, ◌&&◌, ◌||◌, cond, List, eqb, leb, length, get_or, Option, None, Some, Result, Ok, Err}
use Rattle.columns.specs.Questions.{ask}
use Rattle.columns.specs.Refusals.{number}
use Rattle.columns.specs.declared.refusal.Refusal.{Refusal}
use Rattle.columns.specs.declared.refusal.Refusal.TheVariants.{ShortColumn}
use Rattle.columns_answers.specs.Said.{Said, accepts, refuses, Answered}
use Rattle.columns.specs.declared.EdgeIndex.{EdgeIndex}
use Rattle.columns.specs.declared.VertexIndex.{VertexIndex}
use Rattle.columns_pairs.specs.Pairs.{same_pair}
use Rattle.columns_neighbors.specs.Lists.{neighbor_list_at}
use Rattle.columns_room.specs.Room.{two_long, lists_long}
use Rattle.sanity_verdicts.specs.declared.Finding.{Finding}
use Rattle.sanity_verdicts.specs.declared.Finding.TheVariants.{Empty, DuplicateEdge, NoEdges, EdgeTwice}

-- ---- document 01's numbers and values

-- Records, on vertex and edge numbers: the edge number k.
abbrev pub edge_numbered : ℕ → EdgeIndex
edge_numbered k = record { 0 = k }

-- Records, on vertex and edge numbers: the vertex number v.
abbrev pub vertex_numbered : ℕ → VertexIndex
vertex_numbered v = record { 0 = v }

-- Six builders, sanity_check, sentence 1: the verdict with its two values, 0 where there is none: 0 sound, 1 empty,
-- 2 duplicate edge (first and later number), 3 vertex without edges (its number), 4 edge twice at a vertex (edge, vertex).
abbrev pub verdict_values : Option Finding → ℕ × ℕ × ℕ
verdict_values None = (0, 0, 0)
verdict_values (Some Empty) = (1, 0, 0)
verdict_values (Some (DuplicateEdge earlier later)) = (2, earlier.0, later.0)
verdict_values (Some (NoEdges vertex)) = (3, vertex.0, 0)
verdict_values (Some (EdgeTwice edge vertex)) = (4, edge.0, vertex.0)

-- Expected forms by place, last paragraph: the number of the question that refuses, 0 where none does, and the verdict with its values.
abbrev pub verdict_said : Result (Option Finding) Refusal → Said (ℕ × ℕ × ℕ)
verdict_said (Ok found) = accepts (verdict_values found)
verdict_said (Err refusal) = refuses (number refusal) (0, 0, 0)

-- ---- the first finding

-- Six builders, sanity_check, sentence 2: a finding goes before what comes next.
abbrev pub or_else : Option Finding → Option Finding → Option Finding
or_else None next = next
or_else (Some finding) next = Some finding

-- Six builders, sanity_check, sentence 2: the first finding of f 0, f 1, up to f (n - 1).
unfoldable pub first_of : ℕ → (ℕ → Option Finding) → Option Finding
first_of zero f = None
first_of (suc n) f = or_else (first_of n f) (f n)

-- Six builders, sanity_check, sentence 1: a finding where the test holds, else none.
abbrev pub found_if : Bool → Finding → Option Finding
found_if b finding = cond b (Some finding) None

-- ---- the edges, in order

-- Six builders, sanity_check, sentence 1, verdict 2: edge k joins the pair of an earlier edge: the first such edge and k.
unfoldable pub duplicate : (a b : List ℕ) (k : ℕ) → Option Finding
duplicate a b k = first_of k (λ j. found_if (same_pair a b j k) (DuplicateEdge (edge_numbered j) (edge_numbered k)))

-- ---- the vertices, in order

-- Six builders, sanity_check, sentence 1, verdict 4: the first number of a list that stands there before: that edge and the vertex.
unfoldable pub twice : (list : List ℕ) (v : ℕ) → Option Finding
twice list v = first_of (length list) (λ i. first_of i (λ j. found_if (eqb (get_or list j 0) (get_or list i 0)) (EdgeTwice (edge_numbered (get_or list i 0)) (vertex_numbered v))))

-- Six builders, sanity_check, sentence 1, verdicts 3 and 4: vertex v has no edges, or an edge twice.
unfoldable pub at_vertex : (list : List ℕ) (len v : ℕ) → Option Finding
at_vertex list len v = cond (eqb len 0) (Some (NoEdges (vertex_numbered v))) (twice list v)

-- Six builders, sanity_check, sentence 2, verdicts 3 and 4: the first finding at the first n vertices, in order.
abbrev pub lists_finding : (n : ℕ) (lengths numbers : List ℕ) → Option Finding
lists_finding n lengths numbers = first_of n (λ u. at_vertex (neighbor_list_at lengths numbers u) (get_or lengths u 0) u)

-- ---- the whole

-- Six builders, sanity_check, sentences 1 and 2: no vertices or no edges, then the edges, then the vertices.
unfoldable pub verdict : (v e : ℕ) (a b lengths numbers : List ℕ) → Option Finding
verdict v e a b lengths numbers =
    cond (eqb v 0 || eqb e 0) (Some Empty)
    (or_else (first_of e (duplicate a b)) (lists_finding v lengths numbers))

-- Questions at the door, 6: ends as long as the edges, list lengths as long as the vertices,
-- neighbour numbers as long as twice the edges and as the sum of the list lengths.
unfoldable pub sanity_long : (v e : ℕ) (a b lengths numbers : List ℕ) → Bool
sanity_long v e a b lengths numbers = (two_long e (length a) (length b) && leb v (length lengths)) && lists_long v e lengths numbers

-- Six builders, sanity_check; Questions at the door, 7, last sentence: only 6 is asked;
-- the call's case, and in document 01's numbers the question, the verdict and its values.
pub record SanityChecked (v e : ℕ) (a b lengths numbers : List ℕ) (answer : Result (Option Finding) Refusal) : Type 0 where
  pub case_is : answer ≡ cond (sanity_long v e a b lengths numbers) (Ok (verdict v e a b lengths numbers)) (Err ShortColumn)
  pub answers : Answered (verdict_said answer) (ask (sanity_long v e a b lengths numbers) 6 0) (verdict_values (verdict v e a b lengths numbers)) (0, 0, 0)
