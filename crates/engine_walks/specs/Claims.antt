-- What is proved: of settling, its table, its path, the size of its sums, the crossing weight, certificates, and two graphs that are alike.
use Rattle.std.specs.Prelude.{◌≡◌, ◌⊎◌, ◌≢◌, ◌↔◌, Bool, true, false, List, [], ◌∷◌, ℕ, suc, ◌+◌, ◌-◌, ◌*◌, ◌≤◌, ◌<◌, min, get_or, length, ℤ, pos, negsuc}
use Rattle.std.proofs.Math.Option.{Option, some, none}
use Rattle.columns.specs.Limits.{vertex_limit, weight_limit, table_bound}
use Rattle.engine_walks.specs.Lists.{sum, Distinct}
use Rattle.engine_walks.specs.Graph.{Graph, edges, end_a, end_b, boundary_at, GraphInRange, Left, Right, Joins, Walk, Joined, CrossingSet, LeastWeight, CrossingWeight}
use Rattle.engine_walks.specs.Settling.{State, status_at, weight_at, first_least, settle, settled}
use Rattle.engine_walks.specs.Answers.{weight_in, TableColumns, table, FoundPath, path, least_from_left, crossing}

-- ---- settling

-- Engine, Settling, sentence 1: of the numbers below n that pass the test t this one has the least x, and is the smaller among equals; none where none passes.
abbrev pub IsFirst : (ℕ → Bool) → (ℕ → ℕ) → ℕ → Option ℕ → Type 0
IsFirst t x n none = (v : ℕ) → v < n → t v ≡ false
IsFirst t x n (some a) = (a < n) × (t a ≡ true) × ((v : ℕ) → v < n → t v ≡ true → (x a ≤ x v) × (x v ≤ x a → a ≤ v))

-- Engine, Settling, sentence 1: what `first_least` finds is that one.
abbrev pub FirstIsLeast : Type 0
FirstIsLeast = (t : ℕ → Bool) (x : ℕ → ℕ) (n : ℕ) → IsFirst t x n (first_least t x n)

-- Engine, Settling, sentence 3: x is a vertex that the test names as a source.
abbrev pub IsSource : Graph → (ℕ → Bool) → ℕ → Type 0
IsSource g source x = (x < g.vertices) × (source x ≡ true)

-- Engine, Settling, sentence 5: an end is named, is no source, and was taken.
abbrev pub EndTaken : (ℕ → Bool) → Option ℕ → State → Type 0
EndTaken source none s = ⊥
EndTaken source (some b) s = (source b ≢ true) × (status_at s b ≡ 2)

-- Engine, Settling: taken vertices have least weights, even where the end stopped it; where nothing waits, all that is joined was taken.
pub record IsSettled (g : Graph) (w : ℕ → ℕ) (source : ℕ → Bool) (end : Option ℕ) (s : State) : Type 0 where
  pub least : (v : ℕ) → status_at s v ≡ 2 → LeastWeight g w (IsSource g source) v (weight_at s v)
  pub done : ((v : ℕ) → status_at s v ≢ 1) ⊎ EndTaken source end s
  pub unreached : ((v : ℕ) → status_at s v ≢ 1) → (x v : ℕ) → IsSource g source x → status_at s v ≢ 2 → ¬ Joined g x v

-- Engine, Settling: for every graph, weights, sources and end.
abbrev pub SettlingIsLeast : Type 0
SettlingIsLeast =
    (g : Graph) (w : ℕ → ℕ) (source : ℕ → Bool) (end : Option ℕ) → GraphInRange g → IsSettled g w source end (settled g w source end)

-- ---- the table

-- Engine, Table: an edge leads to v, whose weight is k, from its previous vertex, whose weight is less by the weight of the edge.
pub record LastStep (g : Graph) (w : ℕ → ℕ) (t : TableColumns) (v k : ℕ) : Type 0 where
  pub edge : ℕ
  pub in_graph : edge < edges g
  pub joins : Joins g edge (get_or t.previous v 0) v
  pub earlier : ℕ
  pub is_earlier : weight_in t.weights (get_or t.previous v 0) ≡ pos earlier
  pub adds : k ≡ earlier + w edge

-- Engine, Table: the previous vertices form a tree; from v they lead back to the source a in n steps.
pub data LeadsBack (g : Graph) (w : ℕ → ℕ) (a : ℕ) (t : TableColumns) : ℕ → ℕ → Type 0 where
  source : LeadsBack g w a t a 0
  onward : {v k n : ℕ} → v ≢ a → weight_in t.weights v ≡ pos k → LastStep g w t v k
      → LeadsBack g w a t (get_or t.previous v 0) n → LeadsBack g w a t v (suc n)

-- Engine, Table: the row of v has a least weight and leads back to the source, or it has -1 and 0.
abbrev pub Row : (g : Graph) (w : ℕ → ℕ) (a : ℕ) (t : TableColumns) (v : ℕ) → Type 0
Row g w a t v =
    ((k : ℕ) × (weight_in t.weights v ≡ pos k) × LeastWeight g w (λ x. x ≡ a) v k
    × (n : ℕ) × (n < g.vertices) × LeadsBack g w a t v n)
    ⊎ ((weight_in t.weights v ≡ negsuc 0) × (get_or t.previous v 0 ≡ 0))

-- Engine, Settling, last sentence: no end stopped the search: none was named, or one equal to the source, or one that was not taken.
abbrev pub Unstopped : (a : ℕ) (t : TableColumns) → Option ℕ → Type 0
Unstopped a t none = Unit {0}
Unstopped a t (some b) = (b ≡ a) ⊎ (weight_in t.weights b ≡ negsuc 0)

-- Engine, Settling, last sentence: the named end b, where a walk joins it to the source, was taken and has its least weight. With the end's weight k:
-- no walk to a vertex that was not taken weighs less; where the end is not the source, no vertex that was taken weighs more. By weight alone, whatever the tie rule.
pub record EndRow (g : Graph) (w : ℕ → ℕ) (a : ℕ) (t : TableColumns) (b : ℕ) : Type 0 where
  pub reached : Joined g a b → (k : ℕ) × (weight_in t.weights b ≡ pos k) × LeastWeight g w (λ x. x ≡ a) b k
  pub none_before : (k v : ℕ) (s : List ℕ) → weight_in t.weights b ≡ pos k → weight_in t.weights v ≡ negsuc 0 → Walk g a s v → k ≤ sum s w
  pub none_after : b ≢ a → (k v j : ℕ) → weight_in t.weights b ≡ pos k → weight_in t.weights v ≡ pos j → j ≤ k

-- Engine, Table: the source's row, every row, and that where no end stopped the search -1 stands only where no walk leads; the named end's row.
pub record IsTable (g : Graph) (w : ℕ → ℕ) (a : ℕ) (end : Option ℕ) (t : TableColumns) : Type 0 where
  pub weights_fit : length t.weights ≡ g.vertices
  pub previous_fit : length t.previous ≡ g.vertices
  pub source : (weight_in t.weights a ≡ pos 0) × (get_or t.previous a 0 ≡ a)
  pub rows : (v : ℕ) → v < g.vertices → Row g w a t v
  pub unreached : Unstopped a t end → (v : ℕ) → v < g.vertices → weight_in t.weights v ≡ negsuc 0 → ¬ Joined g a v
  pub end_row : (b : ℕ) → end ≡ some b → EndRow g w a t b

-- Engine, Table: for every graph, weights, source and end.
abbrev pub TableIsLeast : Type 0
TableIsLeast = (g : Graph) (w : ℕ → ℕ) (a : ℕ) (end : Option ℕ) → GraphInRange g → a < g.vertices → IsTable g w a end (table g w a end)

-- ---- the path

-- Engine, Path, sentence 1: a walk given by the vertices that it comes to and the weights of its steps.
pub data Route (g : Graph) (w : ℕ → ℕ) : ℕ → List ℕ → List ℕ → ℕ → Type 0 where
  arrived : {x : ℕ} → Route g w x [] [] x
  onto : {x v y c : ℕ} {vs cs : List ℕ} (e : ℕ) → e < edges g → Joins g e x v → c ≡ w e
      → Route g w v vs cs y → Route g w x (v ∷ vs) (c ∷ cs) y

-- Engine, Path: a walk from a to b without a repeated vertex, whose steps sum to the total, which is the least.
pub record IsPath (g : Graph) (w : ℕ → ℕ) (a b : ℕ) (p : FoundPath) : Type 0 where
  pub route : Route g w a p.vertices p.steps b
  pub once : Distinct (a ∷ p.vertices)
  pub adds : sum p.steps (λ c. c) ≡ p.total
  pub least : LeastWeight g w (λ x. x ≡ a) b p.total

-- Engine, Path; questions at the door, 17: a path, or none where no walk leads from a to b.
abbrev pub PathAnswer : (g : Graph) (w : ℕ → ℕ) (a b : ℕ) → Option FoundPath → Type 0
PathAnswer g w a b none = ¬ Joined g a b
PathAnswer g w a b (some p) = IsPath g w a b p

-- Engine, Path: for every graph, weights and two vertices.
abbrev pub PathIsLeast : Type 0
PathIsLeast = (g : Graph) (w : ℕ → ℕ) (a b : ℕ) → GraphInRange g → a < g.vertices → PathAnswer g w a b (path g w a b)

-- ---- the size of sums

-- Records, last sentence: along a walk without a repeated vertex, and in settling, sums are at most `kept`; by way of a vertex, at most `offered`.
pub record SumsAtMost (g : Graph) (w : ℕ → ℕ) (kept offered : ℕ) : Type 0 where
  pub along_walk : (x y : ℕ) (vs cs : List ℕ) → x < g.vertices → Route g w x vs cs y → Distinct (x ∷ vs) → sum cs (λ c. c) ≤ kept
  pub taken : (source : ℕ → Bool) (end : Option ℕ) (k v : ℕ) → k ≤ g.vertices
      → status_at (settle g w source end k) v ≡ 2 → weight_at (settle g w source end k) v ≤ kept
  pub waiting : (source : ℕ → Bool) (end : Option ℕ) (k v : ℕ) → k < g.vertices
      → status_at (settle g w source end k) v ≡ 1 → weight_at (settle g w source end k) v ≤ kept
  pub offers : (source : ℕ → Bool) (end : Option ℕ) (k v e : ℕ) → k < g.vertices → e < edges g
      → status_at (settle g w source end k) v ≡ 1 → weight_at (settle g w source end k) v + w e ≤ offered

-- Records, last sentence: under any limit on the weights, one limit for each vertex but one; under the limits given there, one for each vertex
-- that a graph may have, which fits 32 signed bits.
abbrev pub SumsFit : Type 0
SumsFit =
    (g : Graph) (w : ℕ → ℕ) → GraphInRange g
    → ((limit : ℕ) → ((e : ℕ) → e < edges g → w e ≤ limit) → SumsAtMost g w ((g.vertices - 1) * limit) (g.vertices * limit))
    × (g.vertices ≤ vertex_limit → ((e : ℕ) → e < edges g → w e ≤ weight_limit) → SumsAtMost g w (vertex_limit * weight_limit) (vertex_limit * weight_limit) × (vertex_limit * weight_limit < table_bound))

-- ---- the crossing

-- Demand 3: W is the crossing weight, some crossing set weighs W, and none weighs less.
pub record IsCrossing (g : Graph) (w : ℕ → ℕ) (W : ℕ) : Type 0 where
  pub walk : CrossingWeight g w W
  pub a_set : (s : List ℕ) × CrossingSet g s × (sum s w ≡ W)
  pub every_set : (s : List ℕ) → CrossingSet g s → W ≤ sum s w

-- Demand 3; questions at the door, 18: a crossing weight, or none where no walk leads from left to right.
abbrev pub CrossingAnswer : (g : Graph) (w : ℕ → ℕ) → Option ℕ → Type 0
CrossingAnswer g w none = (x y : ℕ) → Left g x → Right g y → ¬ Joined g x y
CrossingAnswer g w (some W) = IsCrossing g w W

-- Engine, Crossing, sentence 2: a number with a property, or -1, which says that there is none.
abbrev pub WeightOrNone : (ℕ → Type 0) → Type 0 → ℤ → Type 0
WeightOrNone P None (pos k) = P k
WeightOrNone P None (negsuc n) = (n ≡ 0) × None

-- Engine, Crossing, sentence 2: the weight column at v, -1 where no walk leads from the left.
abbrev pub LeftWeight : (g : Graph) (w : ℕ → ℕ) (v : ℕ) → ℤ → Type 0
LeftWeight g w v = WeightOrNone (LeastWeight g w (Left g) v) ((x : ℕ) → Left g x → ¬ Joined g x v)

-- Demand 3 and Engine, Crossing: for every graph and weights.
abbrev pub CrossingIsLeast : Type 0
CrossingIsLeast =
    (g : Graph) (w : ℕ → ℕ) → GraphInRange g
    → CrossingAnswer g w (crossing g w)
    × (length (least_from_left g w) ≡ g.vertices)
    × ((v : ℕ) → v < g.vertices → LeftWeight g w v (weight_in (least_from_left g w) v))

-- ---- grounds for a crossing weight

-- Demand 3, grounds for no less: f is 0 on the left, at least W on the right, and differs along an edge by at most its weight.
pub record Potential (g : Graph) (w : ℕ → ℕ) (W : ℕ) (f : ℕ → ℕ) : Type 0 where
  pub left : (v : ℕ) → v < g.vertices → boundary_at g v ≡ 1 → f v ≡ 0
  pub right : (v : ℕ) → v < g.vertices → boundary_at g v ≡ 2 → W ≤ f v
  pub up : (e : ℕ) → e < edges g → f (end_a g e) ≤ f (end_b g e) + w e
  pub down : (e : ℕ) → e < edges g → f (end_b g e) ≤ f (end_a g e) + w e

-- Demand 3, grounds for no less: the lesser of W and an entry of the weight column, W for -1.
abbrev pub cut_off_at : ℕ → ℤ → ℕ
cut_off_at W (pos k) = min W k
cut_off_at W (negsuc n) = W

-- Demand 3: what bounds crossing sets from below and from above.
pub record Bounds (g : Graph) (w : ℕ → ℕ) : Type 0 where
  -- a potential bounds every crossing set from below
  pub lower : (W : ℕ) (f : ℕ → ℕ) → Potential g w W f → (s : List ℕ) → CrossingSet g s → W ≤ sum s w
  -- the weight column, cut off at the crossing weight, is a potential
  pub cut_off : (W : ℕ) → CrossingWeight g w W → Potential g w W (λ v. cut_off_at W (weight_in (least_from_left g w) v))
  -- a walk gives a crossing set of no greater weight
  pub upper : (x y : ℕ) (s : List ℕ) → Left g x → Right g y → Walk g x s y → (t : List ℕ) × CrossingSet g t × (sum t w ≤ sum s w)
  -- the least weight of a walk is the least weight of a crossing set
  pub equal : (W : ℕ) → CrossingWeight g w W → IsCrossing g w W

-- Demand 3: for every graph and weights.
abbrev pub CrossingIsBounded : Type 0
CrossingIsBounded = (g : Graph) (w : ℕ → ℕ) → GraphInRange g → Bounds g w

-- Demand 3, the clause about d: a potential and a walk of the same weight determine the crossing weight.
abbrev pub CertificateDecides : Type 0
CertificateDecides =
    (g : Graph) (w : ℕ → ℕ) (W : ℕ) (f : ℕ → ℕ) (x y : ℕ) (s : List ℕ)
    → GraphInRange g → Potential g w W f → Left g x → Right g y → Walk g x s y → sum s w ≡ W
    → IsCrossing g w W × (crossing g w ≡ some W)

-- ---- two graphs

-- Demand 3, on two lists of calls: graphs with the same ends and the same boundary bytes.
pub record Alike (g g' : Graph) : Type 0 where
  pub same_vertices : g.vertices ≡ g'.vertices
  pub same_edges : edges g ≡ edges g'
  pub same_a : (e : ℕ) → e < edges g → end_a g e ≡ end_a g' e
  pub same_b : (e : ℕ) → e < edges g → end_b g e ≡ end_b g' e
  pub same_byte : (v : ℕ) → v < g.vertices → boundary_at g v ≡ boundary_at g' v

-- Demand 3, on two lists of calls: both are -1, or neither is and the first is at most the second.
pub data NotGreater : ℤ → ℤ → Type 0 where
  unreached : NotGreater (negsuc 0) (negsuc 0)
  reached : {k k' : ℕ} → k ≤ k' → NotGreater (pos k) (pos k')

-- Demand 3, on two lists of calls: a crossing weight, -1 where there is none.
abbrev pub signed : Option ℕ → ℤ
signed none = negsuc 0
signed (some k) = pos k

-- Demand 3, on two lists of calls, nowhere greater weights: no greater crossing weight, no greater least weights from the left or from a vertex.
pub record NoGreaterAnswers (g g' : Graph) (w w' : ℕ → ℕ) : Type 0 where
  pub crossings : NotGreater (signed (crossing g w)) (signed (crossing g' w'))
  pub columns : (v : ℕ) → v < g.vertices
      → NotGreater (weight_in (least_from_left g w) v) (weight_in (least_from_left g' w') v)
  pub tables : (a v : ℕ) → a < g.vertices → v < g.vertices
      → NotGreater (weight_in (table g w a none).weights v) (weight_in (table g' w' a none).weights v)

-- Demand 3, on two lists of calls, equal weights: the same crossing weight, the same least weights from the left and from a vertex.
pub record EqualAnswers (g g' : Graph) (w w' : ℕ → ℕ) : Type 0 where
  pub crossings : crossing g w ≡ crossing g' w'
  pub columns : least_from_left g w ≡ least_from_left g' w'
  pub tables : (a : ℕ) → a < g.vertices → (table g w a none).weights ≡ (table g' w' a none).weights

-- Demand 3, on two lists of calls: which vertices are joined depends on the ends alone; equal weights; nowhere greater weights.
abbrev pub WeightsCompare : Type 0
WeightsCompare =
    (g g' : Graph) (w w' : ℕ → ℕ) → GraphInRange g → Alike g g'
    → ((x y : ℕ) → Joined g x y ↔ Joined g' x y)
    × (((e : ℕ) → e < edges g → w e ≡ w' e) → EqualAnswers g g' w w')
    × (((e : ℕ) → e < edges g → w e ≤ w' e) → NoGreaterAnswers g g' w w')
