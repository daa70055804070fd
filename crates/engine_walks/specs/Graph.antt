-- Graphs, walks, edge sets and least weights. The weight of an edge is given by a function of its number, since loads and resets change it.
use Rattle.std.specs.Prelude.{◌≡◌, ◌⊎◌, List, [], ◌∷◌, ℕ, ◌+◌, ◌%◌, ◌≤◌, ◌<◌, length, get_or}
use Rattle.engine_walks.specs.Lists.{delta, sum, All, Distinct}

-- Records, on engine graphs, without weights and log: the number of vertices, the first and the second end of each edge, the boundary bytes.
pub record Graph : Type 0 where
  pub vertices : ℕ
  pub ends_a : List ℕ
  pub ends_b : List ℕ
  pub boundary : List ℕ

-- Records, on edge numbers: how many edges there are.
abbrev pub edges : Graph → ℕ
edges g = length g.ends_a

-- Records, on edges: the first end of edge e.
abbrev pub end_a : Graph → ℕ → ℕ
end_a g e = get_or g.ends_a e 0

-- Records, on edges: the second end of edge e.
abbrev pub end_b : Graph → ℕ → ℕ
end_b g e = get_or g.ends_b e 0

-- Records, on vertices: the boundary byte of v, 0 inner, 1 left, 2 right.
abbrev pub boundary_at : Graph → ℕ → ℕ
boundary_at g v = get_or g.boundary v 0

-- Questions at the door, 7, as far as the claims need it: each end is a vertex, each boundary byte is 0, 1 or 2.
pub record GraphInRange (g : Graph) : Type 0 where
  pub a_in : (e : ℕ) → e < edges g → end_a g e < g.vertices
  pub b_in : (e : ℕ) → e < edges g → end_b g e < g.vertices
  pub byte : (v : ℕ) → v < g.vertices → boundary_at g v < 3

-- Records, on vertices: v is a left vertex.
abbrev pub Left : Graph → ℕ → Type 0
Left g v = (v < g.vertices) × (boundary_at g v ≡ 1)

-- Records, on vertices: v is a right vertex.
abbrev pub Right : Graph → ℕ → Type 0
Right g v = (v < g.vertices) × (boundary_at g v ≡ 2)

-- Engine, on walks, sentence 1: edge e leads from x to y, one way or the other.
abbrev pub Joins : Graph → ℕ → ℕ → ℕ → Type 0
Joins g e x y = ((end_a g e ≡ x) × (end_b g e ≡ y)) ⊎ ((end_a g e ≡ y) × (end_b g e ≡ x))

-- Engine, on walks, sentence 1: a walk from x to y along the edges s, in this order. Its weight is `sum s w`.
pub data Walk (g : Graph) : ℕ → List ℕ → ℕ → Type 0 where
  stay : {v : ℕ} → Walk g v [] v
  step : {x y z e : ℕ} {s : List ℕ} → e < edges g → Joins g e x y → Walk g y s z → Walk g x (e ∷ s) z

-- Questions at the door, 17 and 18: there is a walk from x to y.
abbrev pub Joined : Graph → ℕ → ℕ → Type 0
Joined g x y = (s : List ℕ) × Walk g x s y

-- Questions at the door, 18: there is a walk from a left vertex to a right one.
abbrev pub LeftJoinsRight : Graph → Type 0
LeftJoinsRight g = (x : ℕ) × (y : ℕ) × Left g x × Right g y × Joined g x y

-- Engine, on walks, sentence 2: s lists edges of the graph, all different. Its weight is `sum s w`.
pub record EdgeSet (g : Graph) (s : List ℕ) : Type 0 where
  pub named : All (λ e. e < edges g) s
  pub once : Distinct s

-- Engine, on walks, sentence 3: how many edges of s end at v.
abbrev pub degree : Graph → List ℕ → ℕ → ℕ
degree g s v = sum s (λ e. delta (end_a g e) v + delta (end_b g e) v)

-- Engine, on walks, sentence 3: at each inner vertex that number is even.
abbrev pub LeavesNoDefect : Graph → List ℕ → Type 0
LeavesNoDefect g s = (v : ℕ) → v < g.vertices → boundary_at g v ≡ 0 → degree g s v % 2 ≡ 0

-- Engine, on walks, sentence 4: how many ends of edges of s are left vertices.
abbrev pub meets_left : Graph → List ℕ → ℕ
meets_left g s = sum s (λ e. delta (boundary_at g (end_a g e)) 1 + delta (boundary_at g (end_b g e)) 1)

-- Engine, on walks, sentences 2 to 4, and demand 3: an edge set without defect that meets the left boundary an odd number of times.
pub record CrossingSet (g : Graph) (s : List ℕ) : Type 0 where
  pub is_set : EdgeSet g s
  pub clean : LeavesNoDefect g s
  pub odd : meets_left g s % 2 ≡ 1

-- Engine, Crossing, sentence 2, for any set of sources: some walk from a source to v weighs k, and none weighs less.
pub record LeastWeight (g : Graph) (w : ℕ → ℕ) (Source : ℕ → Type 0) (v k : ℕ) : Type 0 where
  pub some_walk : (x : ℕ) × (s : List ℕ) × Source x × Walk g x s v × (sum s w ≡ k)
  pub no_lighter : (x : ℕ) (s : List ℕ) → Source x → Walk g x s v → k ≤ sum s w

-- Engine, Crossing, sentence 1: some walk from a left to a right vertex weighs W, and none weighs less.
pub record CrossingWeight (g : Graph) (w : ℕ → ℕ) (W : ℕ) : Type 0 where
  pub a_walk : (x : ℕ) × (y : ℕ) × (s : List ℕ) × Left g x × Right g y × Walk g x s y × (sum s w ≡ W)
  pub every_walk : (x y : ℕ) (s : List ℕ) → Left g x → Right g y → Walk g x s y → W ≤ sum s w
