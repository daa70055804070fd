-- Every accepted code meets question 7, and each vertex has a neighbour list without repetition. Assumes nothing.
use mathlib.Core.Path.{◌≡◌, sym, ap, ◌∙◌}
use mathlib.Core.Bool.{true}
use mathlib.Core.Logic.{inl, inr}
use mathlib.Core.List.{List}
use Prim.Native.Nat.{ℕ, zero, ◌+◌, ◌*◌, ◌≤◌, ◌<◌}
use native.Mathlib.Omega.{arith}
use lib.ListN.{length, get_or, take, replicate, length-append, length-map, length-replicate, get_or-replicate, get_or-map}
use Rattle.columns.specs.Lists.{over}
use Rattle.columns.specs.Limits.{boundary_limit, mark_limit, half_weight_limit}
use Rattle.columns.specs.Questions.{all_within}
use Rattle.columns.proofs.Columns.{take-over, over-in}
use Rattle.columns.proofs.Tests.{at_within}
use Rattle.columns_neighbors.proofs.Placing.{ends_at, neighbors-chosen}
use Rattle.columns_neighbors.specs.Sound.{SoundGraph}
use Rattle.columns_neighbors.proofs.Ends.{says-graph}
use Rattle.columns_pairs.specs.Pairs.{OnePair}
use Rattle.codes_writers.specs.declared.CodeVertex.{CodeVertex}
use Rattle.codes_writers.specs.Edges.{Ends, firsts, seconds, boundaries}
use Rattle.codes_layers.specs.Codes.{edges_of, vertices_of}
use Rattle.codes_layers.specs.Counts.{vertex_num, edge_num}
use Rattle.codes_layers.proofs.Counted.{edges-counted, vertices-counted}
use Rattle.codes_layers.proofs.Accepted.{Accepted, accepted, edges_few}
use Rattle.codes_graphs.specs.Claims.{BuiltCode, CodesAreSound}
use Rattle.codes_graphs.proofs.AllEdges.{EdgeFacts, edge-facts}
use Rattle.codes_graphs.proofs.AllVertices.{byte_at}
use Rattle.codes_graphs.proofs.Lists.{chosen_ascends, vertex-listed}

module _ (kind d rounds : ℕ) (ok : Accepted kind d rounds) where
  abbrev es : List Ends
  es = edges_of kind d rounds

  abbrev v : ℕ
  v = vertex_num kind d rounds

  abbrev e : ℕ
  e = edge_num kind d rounds

  count : length es ≡ e
  count = edges-counted kind d ok.distance.three rounds

  f : EdgeFacts (Rattle.codes_graphs.specs.Graphs.height kind d) v es
  f = edge-facts kind d rounds ok

  -- an end in the list, and in a column that holds the list
  pub first-is : (k : ℕ) → get_or (firsts es) k 0 ≡ (get_or es k (0, 0)).0
  first-is k = get_or-map (λ (x : Ends). x.0) es k (0, 0)

  pub second_is : (k : ℕ) → get_or (seconds es) k 0 ≡ (get_or es k (0, 0)).1
  second_is k = get_or-map (λ (x : Ends). x.1) es k (0, 0)

  pub first-over : (a : List ℕ) (k : ℕ) → k < e → get_or (over (firsts es) a) k 0 ≡ (get_or es k (0, 0)).0
  first-over a k h = over-in (firsts es) a 0 k (omega (arith, count, length-map es (λ (x : Ends). x.0))) ∙ first-is k

  pub second-over : (b : List ℕ) (k : ℕ) → k < e → get_or (over (seconds es) b) k 0 ≡ (get_or es k (0, 0)).1
  second-over b k h = over-in (seconds es) b 0 k (omega (arith, count, length-map es (λ (x : Ends). x.1))) ∙ second_is k

  module _ (a b : List ℕ) where
    apart : (j k : ℕ) → j < k → k < e → OnePair (over (firsts es) a) (over (seconds es) b) j k → ⊥
    apart j k h l (inl q) =
        f.no_two j k h (omega (arith, count))
        (λ i. ((sym (first-over a j (omega arith)) ∙ q.0 ∙ first-over a k l) i, (sym (second-over b j (omega arith)) ∙ q.1 ∙ second-over b k l) i))
    apart j k h l (inr q) =
        omega (arith, f.rising j (omega (arith, count)), f.rising k (omega (arith, count)), first-over a j (omega arith), second-over b j (omega arith), first-over a k l, second-over b k l, q.0, q.1)

    pub graph-record : SoundGraph v e (over (firsts es) a) (over (seconds es) b)
    graph-record = record {
      some_vertex = some;
      few_vertices = ok.few_vertices;
      few_edges = omega (arith, edges_few kind d rounds ok);
      long_a = omega (arith, count, length-map es (λ (x : Ends). x.0), length-append (firsts es) (lib.ListN.drop (length (firsts es)) a));
      long_b = omega (arith, count, length-map es (λ (x : Ends). x.1), length-append (seconds es) (lib.ListN.drop (length (seconds es)) b));
      in_a = λ k h. omega (arith, first-over a k h, f.rising k (omega (arith, count)), f.within k (omega (arith, count)));
      in_b = λ k h. omega (arith, second-over b k h, f.within k (omega (arith, count)));
      differ = λ k h q. omega (arith, first-over a k h, second-over b k h, f.rising k (omega (arith, count)));
      apart = apart;
    }
      where
        -- some edge ends at a vertex
        some : 1 ≤ v
        some = omega (arith, Rattle.codes_graphs.proofs.Lists.some_vertex kind d rounds ok)

  zeros_within : (limit n : ℕ) (column : List ℕ) → all_within limit (take n (over (replicate n 0) column)) ≡ true
  zeros_within limit n column = rw (take-over (replicate n 0) column n (length-replicate n 0))
      (at_within limit (replicate n 0) (λ i h.
      let q : get_or (replicate n zero) i zero ≡ zero = get_or-replicate n i zero zero (omega (arith, length-replicate n zero)) in
      omega arith))

  differ-plain : (k : ℕ) → k < e → get_or (firsts es) k 0 ≡ get_or (seconds es) k 0 → ⊥
  differ-plain k h q = omega (arith, first-is k, second_is k, f.rising k (omega (arith, count)))

  pub built : BuiltCode kind d rounds
  built = record {
    vertices = vertices-counted kind d ok.distance.three rounds;
    edges = count;
    graph = λ a b. says-graph v e (over (firsts es) a) (over (seconds es) b) (graph-record a b);
    boundary = λ column.
        let n : length (boundaries (vertices_of kind d rounds)) ≡ v = length-map (vertices_of kind d rounds) (λ (x : CodeVertex). x.boundary) ∙ vertices-counted kind d ok.distance.three rounds in
        rw (take-over (boundaries (vertices_of kind d rounds)) column v n) (at_within boundary_limit (boundaries (vertices_of kind d rounds)) (λ i h. (byte_at kind d rounds ok i (omega (arith, n))).few));
    half_weight_holds = λ column. zeros_within half_weight_limit e column;
    erasure = λ column. zeros_within mark_limit e column;
    defect = λ column. zeros_within mark_limit v column;
    rising = λ k h. omega (arith, first-is k, second_is k, f.rising k (omega (arith, count)));
    touched = vertex-listed kind d rounds ok;
    ascending = λ u j k h l.
        let c = neighbors-chosen (firsts es) (seconds es) e u differ-plain in
        rw c (chosen_ascends e (ends_at (firsts es) (seconds es) u) j k h (omega (arith, ap length c)));
  }

pub codes_are_sound : CodesAreSound
codes_are_sound kind d rounds b = built kind d rounds (accepted kind d rounds 0 b).0
