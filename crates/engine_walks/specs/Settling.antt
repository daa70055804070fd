-- Settling, turn by turn, from any set of sources. A status byte says of each vertex that it is absent (0), waits (1) or was taken (2); the weight and
-- the previous vertex of an absent vertex mean nothing.
use Rattle.std.specs.Prelude.{Bool, false, not, cond, ◌&&◌, ◌||◌, List, [], ◌∷◌, ℕ, zero, suc, ◌+◌, ◌-◌, get_or, set, ltb, eqb}
use Rattle.std.proofs.Math.Option.{Option, some, none}
use Rattle.columns.specs.Lists.{each}
use Rattle.engine_walks.specs.Lists.{bit}
use Rattle.engine_walks.specs.Graph.{Graph, edges, end_a, end_b}

-- Engine, Settling: three columns, status bytes, weights and previous vertices.
pub record State : Type 0 where
  pub status : List ℕ
  pub weight : List ℕ
  pub previous : List ℕ

-- Engine, Settling: the status byte of v.
abbrev pub status_at : State → ℕ → ℕ
status_at s v = get_or s.status v 0

-- Engine, Settling: the weight with which v waits or was taken.
abbrev pub weight_at : State → ℕ → ℕ
weight_at s v = get_or s.weight v 0

-- Engine, Settling: the previous vertex with which v waits or was taken.
abbrev pub previous_at : State → ℕ → ℕ
previous_at s v = get_or s.previous v 0

-- Engine, Settling, sentence 1: v beside the best of the smaller numbers, which stays unless v has less.
abbrev pub lesser : (ℕ → ℕ) → ℕ → Option ℕ → Option ℕ
lesser x v none = some v
lesser x v (some b) = cond (ltb (x v) (x b)) (some v) (some b)

-- Engine, Settling, sentence 1: of the numbers below n that pass a test the one with the least x; of several the smallest.
unfoldable pub first_least : (ℕ → Bool) → (ℕ → ℕ) → ℕ → Option ℕ
first_least test x zero = none
first_least test x (suc v) = cond (test v) (lesser x v (first_least test x v)) (first_least test x v)

-- Engine, Settling, sentence 1: the vertex to take next, of n.
abbrev pub to_take : ℕ → State → Option ℕ
to_take n s = first_least (λ v. eqb (status_at s v) 1) (weight_at s) n

-- Engine, Settling, sentence 3: the state before the first turn; every vertex that is no source is absent.
unfoldable pub start : Graph → (ℕ → Bool) → State
start g source = record {
  status = each g.vertices (λ v. bit (source v));
  weight = each g.vertices (λ v. 0);
  previous = each g.vertices (λ v. v);
}

-- Engine, Settling, sentence 4: the amount by which two vertex numbers differ.
abbrev pub apart : ℕ → ℕ → ℕ
apart x y = (x - y) + (y - x)

-- Engine, Settling, sentence 4: whether u, waiting with (w', q'), changes for weight k from a taken vertex with previous q.
unfoldable pub changes : (u k q w' q' : ℕ) → Bool
changes u k q w' q' =
    ltb k w'
    || (eqb k w' && ltb (apart u q) (apart u q'))
    || (eqb k w' && eqb (apart u q) (apart u q') && ltb q q')

-- Engine, Settling, sentence 4: from now on v waits with (k, a).
abbrev pub waits : (v k a : ℕ) → State → State
waits v k a s = record { status = set s.status v 1; weight = set s.weight v k; previous = set s.previous v a }

-- Engine, Settling, sentence 4: the new state for an absent neighbour, and for a waiting one that changes; the old one otherwise.
unfoldable pub by_status : ℕ → Bool → State → State → State
by_status zero change new old = new
by_status (suc zero) change new old = cond change new old
by_status (suc (suc n)) change new old = old

-- Engine, Settling, sentence 4: what becomes of neighbour u of the taken vertex a, which has previous q; k is the weight by way of a.
unfoldable pub offer : (a q u k : ℕ) → State → State
offer a q u k s = by_status (status_at s u) (changes u k q (weight_at s u) (previous_at s u)) (waits u k a s) s

-- Engine, Settling, sentence 4: edge e, if it has an end at a, taken with weight W and previous q; the other end is the neighbour.
unfoldable pub relax_edge : (g : Graph) (w : ℕ → ℕ) (a q W e : ℕ) → State → State
relax_edge g w a q W e s =
    cond (eqb (end_a g e) a) (offer a q (end_b g e) (W + w e) s) (cond (eqb (end_b g e) a) (offer a q (end_a g e) (W + w e) s) s)

-- Engine, Settling, sentence 4: the edges below n, one after another, in ascending order.
unfoldable pub relax : (g : Graph) (w : ℕ → ℕ) (a q W n : ℕ) → State → State
relax g w a q W zero s = s
relax g w a q W (suc n) s = relax_edge g w a q W n (relax g w a q W n s)

-- Engine, Settling, sentence 4: a counts as taken, with the weight and previous vertex that it had.
abbrev pub mark : State → ℕ → State
mark s a = record { status = set s.status a 2; weight = s.weight; previous = s.previous }

-- Engine, Settling, sentence 4: vertex a is taken, then each of its neighbours is treated in turn.
unfoldable pub take_vertex : (g : Graph) (w : ℕ → ℕ) (a : ℕ) → State → State
take_vertex g w a s = relax g w a (previous_at s a) (weight_at s a) (edges g) (mark s a)

-- Engine, Settling, sentences 1 and 4: the chosen vertex is taken, if one waits.
abbrev pub take_chosen : (g : Graph) (w : ℕ → ℕ) → State → Option ℕ → State
take_chosen g w s none = s
take_chosen g w s (some a) = take_vertex g w a s

-- Engine, Settling, sentence 5: whether the end was taken; none, or one that is a source, never counts.
unfoldable pub stopped : (source : ℕ → Bool) (end : Option ℕ) → State → Bool
stopped source none s = false
stopped source (some b) s = not (source b) && eqb (status_at s b) 2

-- Engine, Settling: one turn.
unfoldable pub next : (g : Graph) (w : ℕ → ℕ) (source : ℕ → Bool) (end : Option ℕ) → State → State
next g w source end s = cond (stopped source end s) s (take_chosen g w s (to_take g.vertices s))

-- Engine, Settling: k turns.
unfoldable pub settle : (g : Graph) (w : ℕ → ℕ) (source : ℕ → Bool) (end : Option ℕ) (k : ℕ) → State
settle g w source end zero = start g source
settle g w source end (suc k) = next g w source end (settle g w source end k)

-- Engine, Settling, to its end: a turn takes a vertex or changes nothing, so as many turns as there are vertices are enough.
abbrev pub settled : (g : Graph) (w : ℕ → ℕ) (source : ℕ → Bool) (end : Option ℕ) → State
settled g w source end = settle g w source end g.vertices

-- Engine, Settling, sentence 4, along a list: the edges of a list, one after another, are offered from a, which was taken with previous q and weight W.
unfoldable pub relax_along : (g : Graph) (w : ℕ → ℕ) (a q W : ℕ) → List ℕ → State → State
relax_along g w a q W [] s = s
relax_along g w a q W (e ∷ l) s = relax_along g w a q W l (relax_edge g w a q W e s)
